use Rattle.std.proofs.Common.{ℕ, List, ◌++◌, ◌∷◌, [], length, sym, ap, ◌∙◌, arith}
use Rattle.std.proofs.lemmas.List.FromFn.{length-map-range_with_len, map-range_with_len_more}
use Rattle.ua_table.specs.VectorLists.{VectorList}
use Rattle.ua_term.specs.Assignments.{projection}
use Rattle.ua_free.proofs.MemberLaws.{length_projection}
use Rattle.ua_free.proofs.free_algebras.projections.Goals as goal

pub add-requires-clause-width : goal.add-requires-clause-width
add-requires-clause-width c =
    let long =
    ap length
    (c.as_slice.ensures.value ∙ c.in_ok-append_values.ensures
    ∙ ap (λ (row : List ℕ). row ++ projection c.args.size c.args.variables c.loop-variable.variable) c.in_ok-row.ensures.items)
    ∙ length_projection c.args.size c.args.variables _ in
    let wide = c.loop-variable.invariant.width in
    let width = c.requires.width in
    omega (arith, long, wide, width)

pub add-requires-clause-room : goal.add-requires-clause-room
add-requires-clause-room c =
    let so_far = ap length c.loop-variable.invariant.items in
    let count = length-map-range_with_len (projection c.args.size c.args.variables) 0 c.loop-variable.variable in
    let test = c.loop-variable-test.true in
    let fits = c.ranges.variables.fits in
    omega (arith, so_far, count, test, fits)

pub loop-variable-preserved : goal.loop-variable-preserved
loop-variable-preserved c =
    let i = c.loop-variable.variable in
    let f = projection c.args.size c.args.variables in
    record {
      width = ap (λ (z : VectorList). z.width) c.in_ok-add.ensures.ok ∙ c.loop-variable.invariant.width;
      items = ap (λ (z : VectorList). z.items) c.in_ok-add.ensures.ok
          ∙ (λ j. c.loop-variable.invariant.items j ++ (c.as_slice.ensures.value ∙ c.in_ok-append_values.ensures ∙ ap (λ (row : List ℕ). row ++ f i) c.in_ok-row.ensures.items) j ∷ [])
          ∙ sym (map-range_with_len_more f 0 i i (omega arith));
    }
