use Rattle.std.proofs.Common.{◌≡◌, ◌<◌, length, refl, sym, ap, ◌∙◌, subst, arith}
use Rattle.std.specs.Prelude.{slice_get}
use Rattle.std.specs.List.{AllByRecursion}
use Rattle.ua_term.specs.Assignments.{projection}
use Rattle.ua_identity.specs.Identities.{TermIdentity}
use Rattle.ua_identity.specs.Patterns.{all_fillings}
use Rattle.ua_identity.proofs.ChainLaws.{generator_count}
use Rattle.ua_flaws.specs.Flaws.{Tells}
use Rattle.ua_check.proofs.ReachedLaws.{odd_low, reached_told}
use Rattle.ua_check.proofs.no_chains.positions_flaws.Goals as goal

pub get-requires-2 : goal.get-requires-2
get-requires-2 c =
    let kind = c.args.kind.now in
    let count = ap length c.requires.places ∙ generator_count c.args.a.now kind.patterns kind.places in
    let is = c.places.ensures.places in
    let end = c.from-end.ensures in
    let low = c.places.ensures.kind.end in
    omega (arith, count, is, end, low)

pub reached-requires-clause-chart : goal.reached-requires-clause-chart
reached-requires-clause-chart c =
    let same = c.size-size.ensures.size in
    let table = c.size-size.ensures.algebra in
    let some = table.algebra.inhabited in
    let small = table.small in
    record {
      some = omega (arith, same, some);
      small = omega (arith, same, small);
      own = subst (λ values. AllByRecursion (λ (i : TermIdentity). values ≡ projection c.size-size.result i.pattern.variables i.value) c.args.kind.now.own) (sym c.as_slice.ensures.value) c.in_ok-own.ensures;
      width = c.requires.width ∙ ap (λ n. length (all_fillings n c.args.kind.now.patterns)) (sym same);
      narrow = c.requires.narrow;
    }

pub reached-requires-clause-odd : goal.reached-requires-clause-odd
reached-requires-clause-odd c =
    subst (AllByRecursion (λ p. p < length c.args.rows.now.items)) (sym c.odd_positions-odd.ensures)
    (odd_low (length c.args.rows.now.items) c.args.kind.now c.args.even.now c.args.odd.now (c.in_ok-sides.ensures.even refl) (c.in_ok-sides.ensures.odd refl))

pub returns : goal.returns
returns c =
    subst (λ f. Tells f c.reached.result)
    (reached_told c.args.a.now c.args.kind.now c.args.rows.now.items c.args.places.now.items c.args.even.now c.args.odd.now c.odd_positions-odd.result.now c.size-size.result c.get.result.now c.get-2.result.now
    c.size-size.ensures.size c.requires.places c.get.ensures.vector (ap (slice_get c.args.places.now.items) (c.places.ensures.end ∙ sym c.from-end.ensures) ∙ c.get-2.ensures.vector) c.odd_positions-odd.ensures c.in_ok-sides.ensures.told)
    c.reached.ensures
