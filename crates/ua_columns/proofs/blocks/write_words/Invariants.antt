use Rattle.std.proofs.Common.{◌≡◌, ℕ, ◌<◌, [], map, slice_index_or}
use Rattle.std.specs.List.{range_with_len}
use Rattle.ua_columns.specs.inner.Tiles.{word_at}
use Rattle.ua_columns.proofs.blocks.write_words.Given as goal

abbrev pub invariant-loop-j : goal.invariant-loop-j
invariant-loop-j l = (k : ℕ) → k < l.j → slice_index_or l.out k [] ≡ map (word_at (slice_index_or l.lines k []) (slice_index_or l.tiles k [])) (range_with_len 0 16)
