use Rattle.std.proofs.Common.{◌≡◌, map}
use Rattle.std.specs.List.{range_with_len}
use Rattle.ua_identity.specs.Patterns.{all_fillings, place_vector}
use Rattle.ua_identity.proofs.fillings.place_vectors.Given as goal

-- the vectors of the places so far
abbrev pub invariant-loop-place : goal.invariant-loop-place
invariant-loop-place g l = record {
  width : l.vectors.width ≡ l.width;
  items : l.vectors.items ≡ map (place_vector (all_fillings l.size (g.P.Patterned.patterns_of l.list))) (range_with_len 0 l.place);
}
