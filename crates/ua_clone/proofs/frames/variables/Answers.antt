use Rattle.std.proofs.Common.{◌++◌, ◌∷◌, [], length, sym, ap, ◌∙◌, arith}
use Rattle.std.proofs.lemmas.List.FromFn.{length-map-range_with_len, map-range_with_len_more}
use Rattle.ua_table.specs.VectorLists.{VectorList}
use Rattle.ua_clone.specs.Points.{points_of}
use Rattle.ua_clone.specs.Frames.{variable_vector}
use Rattle.ua_clone.proofs.frames.variables.Goals as goal

pub add-requires-clause-room : goal.add-requires-clause-room
add-requires-clause-room c =
    let so_far = ap length c.loop-i.invariant.items in
    let count = length-map-range_with_len (variable_vector (points_of c.args.a.now.size c.args.k c.args.points.now)) 0 c.loop-i.i in
    let test = c.loop-i-test.true in
    let fits = c.ranges.k.fits in
    omega (arith, so_far, count, test, fits)

pub loop-i-preserved : goal.loop-i-preserved
loop-i-preserved c =
    let i = c.loop-i.i in
    let f = variable_vector (points_of c.args.a.now.size c.args.k c.args.points.now) in
    record {
      width = ap (λ (z : VectorList). z.width) c.in_ok-add.ensures.ok ∙ c.loop-i.invariant.width;
      items = ap (λ (z : VectorList). z.items) c.in_ok-add.ensures.ok
          ∙ (λ j. c.loop-i.invariant.items j ++ (c.as_slice.ensures.value ∙ c.in_ok-row.ensures) j ∷ [])
          ∙ sym (map-range_with_len_more f 0 i i (omega arith));
    }
