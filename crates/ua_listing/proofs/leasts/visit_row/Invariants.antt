use Rattle.std.proofs.Common.{◌≡◌, ◌≤◌, length}
use Rattle.ua_table.specs.Slices.{IsMark}
use Rattle.ua_listing.specs.inner.Searches.{GoesOnTo, SlicesVisitedIn}
use Rattle.ua_listing.proofs.leasts.visit_row.Given as goal

abbrev pub invariant-loop-s : goal.invariant-loop-s
invariant-loop-s l = record {
  width : length l.scratch ≡ length l.table.operations;
  mark : IsMark l.table.shape l.mark;
  earlier : l.mark.first ≤ l.s;
  goes : GoesOnTo l.table l.fn.search l.search l.height;
  visited : SlicesVisitedIn l.table l.search l.s;
}
