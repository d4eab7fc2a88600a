use Rattle.std.proofs.Common.{length, ap, arith}
use Rattle.std.proofs.lemmas.List.FromFn.{length-map-range_with_len}
use Rattle.ua_clone.specs.Points.{points_of}
use Rattle.ua_clone.specs.Frames.{variable_vector}
use Rattle.ua_clone.proofs.frames.generators.Goals as goal

pub add_elements-requires-clause-room : goal.add_elements-requires-clause-room
add_elements-requires-clause-room c =
    let items = ap length c.in_ok-vectors.ensures.variables in
    let count = length-map-range_with_len (variable_vector (points_of c.args.a.now.size c.args.k c.args.points.now)) 0 c.args.k in
    let fits = c.ranges.k.fits in
    let small = c.elements.ensures.small in
    omega (arith, items, count, fits, small)
