use Rattle.std.proofs.Common.{◌≡◌, ℕ, ◌+◌, ◌*◌, ◌<◌, length, drop}
use Rattle.std.specs.Prelude.{slice_index}
use Rattle.ua_rows.specs.Words.{lanes_of}
use Rattle.ua_columns.specs.inner.Quads.{values_in_word}
use Rattle.ua_columns.proofs.quads.write_values.Given as goal

abbrev pub invariant-loop-r : goal.invariant-loop-r
invariant-loop-r l = record {
  long : length l.out ≡ 16 * l.words;
  done : (q j : ℕ) → q < l.r → j < l.words → lanes_of (slice_index l.out (q * l.words + j)) ≡ values_in_word (drop (4 * l.size * j) l.lines) l.size (slice_index l.keys (q * l.words + j));
}
