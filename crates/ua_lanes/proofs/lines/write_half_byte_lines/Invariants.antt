use Rattle.std.proofs.Common.{◌≡◌, ℕ, ◌*◌, ◌%◌, ◌^◌, ◌<◌, length}
use Rattle.ua_rows.specs.RowLists.{rows_at}
use Rattle.ua_columns.specs.Columns.{AreBelow, entry_of}
use Rattle.ua_lanes.specs.Lines.{line_value}
use Rattle.ua_lanes.proofs.lines.write_half_byte_lines.Given as goal

abbrev pub invariant-loop-x : goal.invariant-loop-x
invariant-loop-x l = record {
  long : length l.out ≡ length l.initial.out;
  bytes : AreBelow 256 l.out;
  lines : (k y : ℕ) → k < l.x → y < 16 → entry_of l.out y k ≡ 16 ^ (k % 2) * line_value l.frame l.op (rows_at l.columns.items l.args) l.free k y;
}
