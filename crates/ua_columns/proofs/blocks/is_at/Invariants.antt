use Rattle.std.proofs.Common.{◌≡◌, ℕ, ◌<◌, [], slice_index, slice_index_or}
use Rattle.ua_columns.proofs.blocks.is_at.Given as goal

abbrev pub invariant-loop-j : goal.invariant-loop-j
invariant-loop-j l = l.bits ≡ 0 → (k : ℕ) → k < l.j → slice_index l.key k ≡ slice_index (slice_index_or l.values k []) l.lane
