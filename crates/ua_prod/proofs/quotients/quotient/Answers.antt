use Rattle.std.proofs.Common.{◌<◌, ℕ, List, length, refl, sym, ap, subst, arith}
use Rattle.std.specs.List.{AllByRecursion}
use Rattle.ua_part.specs.Blocks.{leaders}
use Rattle.ua_prod.proofs.BlockNumbers.{blocks_few, all_leaders_below, all_numbers}
use Rattle.ua_prod.proofs.quotients.quotient.Goals as goal

pub by_blocks-requires : goal.by_blocks-requires
by_blocks-requires c = omega (arith, c.requires, c.size-size.ensures.algebra.small)

pub renumbered-requires-clause-few : goal.renumbered-requires-clause-few
renumbered-requires-clause-few c =
    let p = c.args.p.now in
    let is = ap length c.in_ok-renumbering.ensures.members in
    omega (arith, is, blocks_few p (length p), c.requires)

pub renumbered-requires-clause-members : goal.renumbered-requires-clause-members
renumbered-requires-clause-members c =
    let p = c.args.p.now in
    subst (AllByRecursion (λ x. x < c.args.a.now.size)) (sym c.in_ok-renumbering.ensures.members) (subst (λ n. AllByRecursion (λ x. x < n) (leaders p)) c.requires (all_leaders_below p))

pub renumbered-requires-clause-numbers : goal.renumbered-requires-clause-numbers
renumbered-requires-clause-numbers c =
    let p = c.args.p.now in
    let members = c.in_ok-renumbering.ensures.members in
    let numbers = c.in_ok-renumbering.ensures.numbers in
    let part = (c.in_default.ensures.none.0 refl).partition in
    subst (λ (ms : List ℕ). AllByRecursion (λ x. x < length ms) c.in_ok-renumbering.renumbering.numbers.items) (sym members) (subst (AllByRecursion (λ x. x < length (leaders p))) (sym numbers) (all_numbers p part))
