use Rattle.ua_answer_algebras.proofs.RepliesExist.{close_replied, member_replied, free_replied, sub_replied, ones_replied, eval_replied, hom_replied, check_replied}
use Rattle.ua_answer_algebras.proofs.MakeExists.{make_replied}
use Rattle.ua_answer_algebras.proofs.MadeTables.{make_leaves}
use Rattle.ua_answer_algebras.proofs.laws.algebras.Goals as goal

pub returns : goal.returns
returns c =
    let members = c.members.ensures in
    record {
      closure = close_replied;
      membership = member_replied;
      free = free_replied;
      subalgebra = sub_replied members.exist;
      generated_by_one = ones_replied members.each_alone;
      value = eval_replied;
      map = hom_replied c.answers.ensures.told;
      check = check_replied c.told.ensures;
      make = make_replied members.exist members.closed c.clashes.ensures.one;
      left = make_leaves members.below;
    }
