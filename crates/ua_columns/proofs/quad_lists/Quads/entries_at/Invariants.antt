use Rattle.std.proofs.Common.{◌≡◌, length, take}
use Rattle.ua_table.specs.Algebras.{column}
use Rattle.ua_rows.specs.RowLists.{rows_at}
use Rattle.ua_columns.proofs.quad_lists.Quads.entries_at.Given as goal

abbrev pub invariant-loop-j : goal.invariant-loop-j
invariant-loop-j l = record {
  four : length l.entries ≡ 4;
  entries_are : take l.j l.entries ≡ column (rows_at l.self.items (take l.j l.args)) l.x;
}
