use Rattle.std.proofs.Common.{◌≡◌, ℕ, ◌+◌, ◌*◌, ◌<◌, length}
use Rattle.std.specs.Prelude.{slice_index}
use Rattle.ua_rows.specs.Words.{lanes_of}
use Rattle.ua_columns.proofs.quad_lists.write_key.Given as goal

abbrev pub invariant-loop-j : goal.invariant-loop-j
invariant-loop-j l = record {
  long : length l.key ≡ length l.initial.key;
  entries : (i e : ℕ) → i < l.j → e < 4 → slice_index (lanes_of (slice_index l.key i)) e ≡ slice_index l.v (4 * i + e);
}
