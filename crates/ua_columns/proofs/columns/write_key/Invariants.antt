use Rattle.std.proofs.Common.{◌≡◌, ℕ, ◌*◌, ◌<◌, length}
use Rattle.std.specs.Prelude.{slice_index}
use Rattle.ua_columns.specs.Columns.{digits, base, word_of}
use Rattle.ua_columns.proofs.columns.write_key.Given as goal

abbrev pub invariant-loop-j : goal.invariant-loop-j
invariant-loop-j l = record {
  long : length l.key ≡ length l.initial.key;
  words : (k : ℕ) → k < l.j → slice_index l.key k ≡ word_of (base l.in_bytes) (digits l.in_bytes) l.block l.lane (digits l.in_bytes * k);
}
