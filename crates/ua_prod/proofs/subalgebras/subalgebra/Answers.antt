use Rattle.std.proofs.Common.{◌<◌, ℕ, List, length, map, sym, ap, subst, ◌∙◌, arith, rules}
use Rattle.std.specs.List.{AllByRecursion, range_with_len}
use Rattle.std.proofs.lemmas.List.FromFn.{length-map-range_with_len}
use Rattle.ua_prod.specs.Constructions.{place_among}
use Rattle.ua_prod.proofs.EscapeLaws.{set_few, places_below}
use Rattle.ua_prod.proofs.subalgebras.subalgebra.Goals as goal

pub by_members-requires-clause-few : goal.by_members-requires-clause-few
by_members-requires-clause-few c =
    let few = set_few c.args.set.now c.args.a.now.size c.requires.increasing c.requires.range in
    omega (arith, few, c.size.ensures.size)

pub first_escape-requires-clause-count : goal.first_escape-requires-clause-count
first_escape-requires-clause-count c =
    ap length c.in_ok-renumbering.ensures.numbers ∙ length-map-range_with_len (place_among c.args.set.now) 0 c.size.result ∙ c.size.ensures.size

pub first_escape-requires-clause-numbers : goal.first_escape-requires-clause-numbers
first_escape-requires-clause-numbers c =
    let count = ap length c.in_ok-renumbering.ensures.numbers ∙ length-map-range_with_len (place_among c.args.set.now) 0 c.size.result in
    c.in_ok-renumbering.ensures.numbers ∙ (λ j. map (place_among (sym c.in_ok-renumbering.ensures.members j)) (range_with_len 0 (sym count j)))

pub renumbered-requires-clause-few : goal.renumbered-requires-clause-few
renumbered-requires-clause-few c =
    let few = set_few c.args.set.now c.args.a.now.size c.requires.increasing c.requires.range in
    let is = ap length c.in_ok-renumbering.ensures.members in
    omega (arith, few, is)

pub renumbered-requires-clause-count : goal.renumbered-requires-clause-count
renumbered-requires-clause-count c =
    ap length c.in_ok-renumbering.ensures.numbers ∙ length-map-range_with_len (place_among c.args.set.now) 0 c.size.result ∙ c.size.ensures.size

pub renumbered-requires-clause-numbers : goal.renumbered-requires-clause-numbers
renumbered-requires-clause-numbers c =
    let set = c.args.set.now in
    let some : 0 < length c.args.set.now = search rules in
    subst (λ (ms : List ℕ). AllByRecursion (λ x. x < length ms) c.in_ok-renumbering.renumbering.numbers.items) (sym c.in_ok-renumbering.ensures.members)
    (subst (AllByRecursion (λ x. x < length set)) (sym c.in_ok-renumbering.ensures.numbers) (places_below set c.size.result some))
