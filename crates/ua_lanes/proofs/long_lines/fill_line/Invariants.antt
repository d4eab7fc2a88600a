use Rattle.std.proofs.Common.{◌≡◌, ℕ, ◌<◌, length, take}
use Rattle.std.specs.Prelude.{nat_lt, if◌then◌else◌, slice_index, slice_set}
use Rattle.ua_table.specs.Algebras.{numeral}
use Rattle.ua_lanes.proofs.long_lines.fill_line.Given as goal

abbrev pub invariant-loop-y : goal.invariant-loop-y
invariant-loop-y l = record {
  long : length l.line ≡ length l.initial.line;
  values : (k : ℕ) → k < l.y → slice_index l.line k ≡ (if nat_lt k l.table.size then slice_index l.table.values (numeral l.table.size (slice_set (take l.arity l.fn.args) l.free k)) else 0);
}
