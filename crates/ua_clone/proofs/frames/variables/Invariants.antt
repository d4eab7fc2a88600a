use Rattle.std.proofs.Common.{◌≡◌, map}
use Rattle.std.specs.List.{range_with_len}
use Rattle.ua_clone.specs.Points.{points_of}
use Rattle.ua_clone.specs.Frames.{variable_vector}
use Rattle.ua_clone.proofs.frames.variables.Given as goal

-- the vectors of the variables so far
abbrev pub invariant-loop-i : goal.invariant-loop-i
invariant-loop-i l = record {
  width : l.vectors.width ≡ l.width;
  items : l.vectors.items ≡ map (variable_vector (points_of l.a.size l.k l.points)) (range_with_len 0 l.i);
}
