use Rattle.std.proofs.Common.{◌≡◌, ◌≤◌, length}
use Rattle.ua_lattice.specs.inner.Joins.{GoesOnWithJoins}
use Rattle.ua_lattice.proofs.FoundLaws.{HasFirstJoins}
use Rattle.ua_lattice.proofs.joins.enter_joins.Given as goal

abbrev pub invariant-loop-i : goal.invariant-loop-i
invariant-loop-i l = record {
  goes : GoesOnWithJoins l.fn.rows.items l.part l.rows.items;
  joins : HasFirstJoins l.fn.rows.items l.part l.i l.rows.items;
  within : length l.rows.items ≤ l.budget;
  width : l.rows.width ≡ l.fn.rows.width;
  joiner : length l.joiner.row.items ≡ length l.fn.joiner.row.items;
}
