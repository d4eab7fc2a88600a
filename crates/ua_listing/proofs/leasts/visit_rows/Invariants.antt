use Rattle.std.proofs.Common.{◌≡◌, ℕ, ◌-◌, ◌<◌, ◌≤◌, length}
use Rattle.ua_table.specs.Algebras.{arities}
use Rattle.ua_table.specs.Slices.{bound, IsMark}
use Rattle.ua_listing.specs.inner.Searches.{IsSearchOf, ReachesMore, IsNearTop, SlicesVisitedIn}
use Rattle.ua_listing.proofs.leasts.visit_rows.Given as goal

abbrev pub invariant-loop-m : goal.invariant-loop-m
invariant-loop-m l = record {
  width : length l.scratch ≡ length l.table.operations;
  mark : IsMark l.table.shape l.mark;
  earlier : l.mark.first ≤ l.s;
  search : IsSearchOf l.table l.search;
  later : ReachesMore (arities l.table.operations) l.fn.search l.search;
  few : l.m ≤ length l.search.order.items;
  near : (i : ℕ) → l.m ≤ i → i < length l.search.order.items → IsNearTop l.search i;
  slices : l.s ≡ bound l.table.shape l.m;
  visited : SlicesVisitedIn l.table l.search l.s;
}

abbrev pub decreases-loop-m : goal.decreases-loop-m
decreases-loop-m l = length l.table.rows.items - l.m
