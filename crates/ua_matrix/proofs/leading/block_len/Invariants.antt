use Rattle.std.proofs.Common.{◌≡◌, ◌≤◌, length}
use Rattle.std.specs.Prelude.{filter, slice_index, ◌==◌}
use Rattle.std.specs.List.{range_with_len}
use Rattle.ua_matrix.proofs.leading.block_len.Given as goal

abbrev pub invariant-loop-y : goal.invariant-loop-y
invariant-loop-y l = record {
  counted : l.count ≡ length (filter (λ b. slice_index l.part b == slice_index l.part l.x) (range_with_len 0 l.y));
  low : l.count ≤ l.y;
}
