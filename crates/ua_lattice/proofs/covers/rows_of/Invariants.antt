use Rattle.std.proofs.Common.{◌≡◌, length, take}
use Rattle.ua_lattice.proofs.covers.rows_of.Given as goal

abbrev pub invariant-loop-i : goal.invariant-loop-i
invariant-loop-i l = record {
  rows : l.rows.items ≡ take l.i l.list;
  width : l.rows.width ≡ l.size;
  joiner : length l.joiner.row.items ≡ length l.fn.joiner.row.items;
}
