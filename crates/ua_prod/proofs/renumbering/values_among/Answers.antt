use Rattle.std.proofs.Common.{ℕ, map, ap, ◌∙◌, arith}
use Rattle.std.specs.Prelude.{slice_index}
use Rattle.std.proofs.lemmas.List.{take_all}
use Rattle.std.proofs.lemmas.Simd.{map-map}
use Rattle.ua_table.specs.Algebras.{numeral}
use Rattle.ua_prod.specs.Constructions.{tuples_among}
use Rattle.ua_prod.proofs.renumbering.values_among.Goals as goal

pub returns : goal.returns
returns c =
    let o = c.args.table.now in
    let numbers = c.args.renumbering.now.numbers.items in
    let members = c.args.renumbering.now.members.items in
    let n = c.in_ok-places.places.ok.0 in
    let m = c.len-i-end.ensures in
    let t = c.loop-i-test.false in
    let all = take_all c.loop-i.i c.in_ok-places.places.items (omega (arith, n, m, t)) in
    let places = c.in_ok-places.ensures.numbers ∙ (λ j. map (numeral (c.size.ensures.size j)) (tuples_among (c.as_slice.ensures.value j) (c.arity.ensures.arity j))) in
    c.loop-i.invariant
    ∙ ap (map (λ (k : ℕ). slice_index numbers (slice_index o.values k))) (all ∙ places)
    ∙ map-map (λ (k : ℕ). slice_index numbers (slice_index o.values k)) (numeral o.size) (tuples_among members o.arity)
