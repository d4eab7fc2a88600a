use Rattle.std.proofs.Common.{◌≡◌, length, map}
use Rattle.std.specs.Prelude.{slice_index}
use Rattle.std.specs.List.{range_with_len}
use Rattle.ua_matrix.specs.Squares.{number_of}
use Rattle.ua_matrix.proofs.deltas.diagonal_pairs.Given as goal

abbrev pub invariant-loop-u : goal.invariant-loop-u
invariant-loop-u l = l.gens.items ≡ map (λ u. (number_of (length l.alpha) l.pairs u u, number_of (length l.alpha) l.pairs (slice_index l.alpha u) (slice_index l.alpha u))) (range_with_len 0 l.u)
