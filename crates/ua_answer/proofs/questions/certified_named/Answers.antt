use Rattle.std.proofs.Common.{◌≡◌, true, sym, ◌∙◌, ap, subst}
use Rattle.ua_cond.specs.Permitted.{MayDecide}
use Rattle.ua_cert.specs.declared.certs.CondName.{CondName}
use Rattle.ua_check.specs.Conditions.{condition_of, has_places}
use Rattle.ua_answer.proofs.QuestionsExist.{same_condition, three_places}
use Rattle.ua_answer.proofs.questions.certified_named.Goals as goal

pub certified_condition-requires-clause-places : goal.certified_condition-requires-clause-places
certified_condition-requires-clause-places g c κs within = subst (λ (n : CondName). has_places n 3 ≡ true) (sym c.name_of.ensures) (three_places c.args.name)

pub certified_condition-requires-clause-permitted : goal.certified_condition-requires-clause-permitted
certified_condition-requires-clause-permitted g c κs within =
    let run = c.args.context.now.run.now in
    let same = same_condition c.args.name ∙ ap (λ n. condition_of n 3) (sym c.name_of.ensures) in
    subst (λ d. MayDecide c.args.known.now.algebra d run.budget run.workers c.decide_named-answer.result) same c.decide_named-answer.ensures
