use Rattle.std.proofs.Common.{sym, subst, ap, length, arith}
use Rattle.std.specs.List.{AllByRecursion}
use Rattle.ua_cong.specs.Closings.{AreElements}
use Rattle.ua_cong.specs.inner.Principals.{HasPrincipal}
use Rattle.ua_cong.proofs.PairLaws.{all_elements, all_there, few_pairs}
use Rattle.ua_cong.proofs.pairs.known_principals.Goals as goal

pub settle_all-requires-clause-elements : goal.settle_all-requires-clause-elements
settle_all-requires-clause-elements c = subst (AllByRecursion (AreElements c.args.a.now)) (sym c.requires) (all_elements c.args.a.now)

pub settle_all-requires-clause-room : goal.settle_all-requires-clause-room
settle_all-requires-clause-room c =
    let few = few_pairs c.args.a.now.size c.size.ensures.algebra.small in
    let all = ap length c.requires in
    let within = c.in_ok-settle_components.ensures.within in
    omega (arith, few, all, within, c.min.ensures)

pub returns-clause-all : goal.returns-clause-all
returns-clause-all c = λ _. all_there c.args.a.now c.settle_all.new.known.rows.items (subst (AllByRecursion (HasPrincipal c.args.a.now c.settle_all.new.known.rows.items)) c.requires (c.in_ok-settle_all.ensures.all c.if-not-branch.false))
