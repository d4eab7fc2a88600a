use Rattle.std.proofs.Common.{◌≡◌, ◌≢◌, ℕ, ◌+◌, ◌*◌, ◌/◌, ◌%◌, ◌<◌, [], length, slice_index_or}
use Rattle.ua_columns.specs.Columns.{AreBelow}
use Rattle.ua_lanes.proofs.lines.enter_line.Given as goal

abbrev pub invariant-loop-q : goal.invariant-loop-q
invariant-loop-q l = record {
  long : length l.lines ≡ length l.initial.lines;
  bytes : AreBelow 256 l.lines;
  there : (k : ℕ) → k < l.q → slice_index_or (slice_index_or l.lines (4 * (l.x / 16) + k) []) (l.x % 16) [] ≡ slice_index_or l.line k [];
  others : (t c : ℕ) → (t / 4 ≡ l.x / 16 → c ≢ l.x % 16) → slice_index_or (slice_index_or l.lines t []) c [] ≡ slice_index_or (slice_index_or l.initial.lines t []) c [];
}
