use Rattle.std.proofs.Common.{◌<◌, ◌≤◌, ◌++◌, ◌∷◌, [], ℕ, List, length, sym, ap, ◌∙◌, arith}
use Rattle.std.specs.List.{AllByRecursion}
use Rattle.std.proofs.lemmas.List.{length-map}
use Rattle.std.proofs.lemmas.List.FromFn.{length-map-range_with_len, map-range_with_len_more}
use Rattle.ua_table.specs.VectorLists.{VectorList}
use Rattle.ua_identity.specs.Identities.{VariablePattern}
use Rattle.ua_identity.specs.Patterns.{all_fillings, place_vector}
use Rattle.ua_identity.proofs.fillings.place_vectors.Goals as goal

has_place : (ps : List VariablePattern) (places j : ℕ) → AllByRecursion (λ (p : VariablePattern). places ≤ length p.places) ps → j < places → AllByRecursion (λ (p : VariablePattern). j < length p.places) ps
has_place [] places j h l = tt
has_place (p ∷ ps) places j h l = (let n = h.0 in omega (arith, l, n), has_place ps places j h.1 l)

pub place_row-requires-clause-narrow : goal.place_row-requires-clause-narrow
place_row-requires-clause-narrow g c =
    let width = c.requires.width in
    let narrow = c.requires.narrow in
    omega (arith, width, narrow)

pub place_row-requires-clause-place : goal.place_row-requires-clause-place
place_row-requires-clause-place g c = has_place (g.P.Patterned.patterns_of c.args.list.now) c.args.places c.loop-place.place c.requires.places c.loop-place-test.true

pub add-requires-clause-width : goal.add-requires-clause-width
add-requires-clause-width g c =
    let row = c.as_slice.ensures.value ∙ c.in_ok-row.ensures in
    let long = ap length row ∙ length-map (all_fillings c.args.size (g.P.Patterned.patterns_of c.args.list.now)) _ in
    let wide = c.loop-place.invariant.width in
    let width = c.requires.width in
    omega (arith, long, wide, width)

pub add-requires-clause-room : goal.add-requires-clause-room
add-requires-clause-room g c =
    let so_far = ap length c.loop-place.invariant.items in
    let count = length-map-range_with_len (place_vector (all_fillings c.args.size (g.P.Patterned.patterns_of c.args.list.now))) 0 c.loop-place.place in
    let test = c.loop-place-test.true in
    omega (arith, so_far, count, test)

pub loop-place-preserved : goal.loop-place-preserved
loop-place-preserved g c =
    let j = c.loop-place.place in
    let f = place_vector (all_fillings c.args.size (g.P.Patterned.patterns_of c.args.list.now)) in
    record {
      width = ap (λ (z : VectorList). z.width) c.in_ok-add.ensures.ok ∙ c.loop-place.invariant.width;
      items = ap (λ (z : VectorList). z.items) c.in_ok-add.ensures.ok
          ∙ (λ i. c.loop-place.invariant.items i ++ (c.as_slice.ensures.value ∙ c.in_ok-row.ensures) i ∷ [])
          ∙ sym (map-range_with_len_more f 0 j j (omega arith));
    }
