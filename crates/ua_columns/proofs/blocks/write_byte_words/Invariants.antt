use Rattle.std.proofs.Common.{◌≡◌, ℕ, ◌+◌, ◌*◌, ◌/◌, ◌%◌, ◌<◌, ◌≤◌, [], length, map, slice_index_or, slice_range}
use Rattle.std.specs.List.{range_with_len}
use Rattle.ua_columns.specs.inner.Tiles.{byte_word_at}
use Rattle.ua_columns.proofs.blocks.write_byte_words.Given as goal

abbrev pub invariant-loop-j : goal.invariant-loop-j
invariant-loop-j l = record {
  within : length l.out ≤ 2 * length l.tiles;
  words : (k : ℕ) → k < l.j → slice_index_or l.out k [] ≡ map (byte_word_at (slice_range l.lines (4 * (k / 2)) (4 * (k / 2) + 4)) (slice_index_or l.tiles (k / 2) []) (8 * (k % 2))) (range_with_len 0 16);
}
