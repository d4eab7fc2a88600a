use Rattle.std.proofs.Common.{◌≡◌, take}
use Rattle.ua_table.specs.Listings.{vectors_of}
use Rattle.ua_matrix.proofs.centrality.rows_of.Given as goal

abbrev pub invariant-loop-i : goal.invariant-loop-i
invariant-loop-i l = record {
  width : l.rows.width ≡ 4;
  items : l.rows.items ≡ take l.i (vectors_of l.list);
}
