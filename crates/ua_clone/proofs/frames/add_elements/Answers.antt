use Rattle.std.proofs.Common.{ℕ, ◌≡◌, List, ◌++◌, ◌∷◌, [], length, map, replicate, sym, ap, ◌∙◌, append_assoc, arith, length-append}
use Rattle.std.specs.List.{range_with_len}
use Rattle.std.proofs.lemmas.List.FromFn.{length-map-range_with_len, map-range_with_len_more}
use Rattle.ua_table.specs.Algebras.{Vector}
use Rattle.ua_table.specs.VectorLists.{VectorList}
use Rattle.ua_clone.proofs.frames.add_elements.Goals as goal

pub add-requires-clause-room : goal.add-requires-clause-room
add-requires-clause-room c =
    let f = replicate {A = ℕ} c.args.vectors.now.width in
    let so_far = ap length c.loop-c.invariant.items in
    let both = length-append c.args.vectors.now.items (map f (range_with_len 0 c.loop-c.c)) in
    let count = length-map-range_with_len f 0 c.loop-c.c in
    let test = c.loop-c-test.true in
    let room = c.requires.room in
    omega (arith, so_far, both, count, test, room)

pub loop-c-preserved : goal.loop-c-preserved
loop-c-preserved c =
    let e = c.loop-c.c in
    let f = replicate {A = ℕ} c.args.vectors.now.width in
    let row : c.as_slice.result.now ≡ f e = c.as_slice.ensures.value ∙ c.in_ok-row.ensures.items_if_clones_equal (λ y same. same) ∙ ap (λ n. replicate n e) c.width-width.ensures.width in
    record {
      width = ap (λ (z : VectorList). z.width) c.in_ok-add.ensures.ok ∙ c.loop-c.invariant.width;
      items = ap (λ (z : VectorList). z.items) c.in_ok-add.ensures.ok
          ∙ (λ j. c.loop-c.invariant.items j ++ row j ∷ [])
          ∙ append_assoc c.args.vectors.now.items (map f (range_with_len 0 e)) (f e ∷ [])
          ∙ ap (λ (vs : List Vector). c.args.vectors.now.items ++ vs) (sym (map-range_with_len_more f 0 e e (omega arith)));
    }
