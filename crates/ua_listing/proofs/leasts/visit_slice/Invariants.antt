use Rattle.std.proofs.Common.{◌≡◌, length}
use Rattle.ua_listing.specs.inner.Searches.{GoesOnTo}
use Rattle.ua_listing.proofs.VisitLaws.{HasWalked}
use Rattle.ua_listing.proofs.leasts.visit_slice.Given as goal

abbrev pub invariant-loop-tuple : goal.invariant-loop-tuple
invariant-loop-tuple l = record {
  width : length l.scratch ≡ length l.table.operations;
  goes : GoesOnTo l.table l.fn.search l.search l.height;
  walked : HasWalked l.table.operations l.table.gens.now.items l.table.rows.items l.search l.s l.op l.tuples;
}

abbrev pub decreases-loop-tuple : goal.decreases-loop-tuple
decreases-loop-tuple l = length l.tuples
