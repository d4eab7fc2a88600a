use Rattle.std.proofs.Common.{◌≡◌}
use Rattle.std.specs.Prelude.{◌==◌, slice_index, length}
use Rattle.std.specs.List.{filter, range_with_len}
use Rattle.ua_prod.specs.Constructions.{first_of, second_of}
use Rattle.ua_matrix.proofs.deltas.pairs_in.Given as goal

abbrev pub invariant-loop-pair : goal.invariant-loop-pair
invariant-loop-pair l = l.pairs.items ≡ filter (λ k. slice_index l.part (first_of (length l.part) k) == slice_index l.part (second_of (length l.part) k)) (range_with_len 0 l.pair)
