use Rattle.std.proofs.Common.{◌≡◌, ℕ, ◌+◌, ◌*◌, ◌<◌, length}
use Rattle.std.specs.Prelude.{slice_index}
use Rattle.ua_rows.specs.RowLists.{rows_at}
use Rattle.ua_lanes.specs.Lines.{line_value}
use Rattle.ua_lanes.proofs.long_lines.write_long_lines.Given as goal

abbrev pub invariant-loop-x : goal.invariant-loop-x
invariant-loop-x l = record {
  long : length l.out ≡ length l.initial.out;
  lines : (k y : ℕ) → k < l.x → y < l.quads.size → slice_index l.out (k * l.quads.size + y) ≡ line_value l.frame l.op (rows_at l.quads.items l.args) l.free k y;
}
