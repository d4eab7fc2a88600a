use Rattle.std.proofs.Common.{◌≡◌, ℕ, ◌*◌, ◌<◌, length, drop}
use Rattle.std.specs.Prelude.{slice_index}
use Rattle.ua_rows.specs.Words.{lanes_of}
use Rattle.ua_columns.specs.inner.Quads.{values_in_word}
use Rattle.ua_columns.proofs.quads.write_at.Given as goal

abbrev pub invariant-loop-i : goal.invariant-loop-i
invariant-loop-i l = record {
  long : length l.out ≡ length l.key;
  done : (j : ℕ) → j < 2 * l.i → lanes_of (slice_index l.out j) ≡ values_in_word (drop (4 * l.size * j) l.lines) l.size (slice_index l.key j);
}
