use Rattle.std.proofs.Common.{◌≡◌, length}
use Rattle.ua_listing.specs.inner.Searches.{GoesOnTo, AreConstantsVisited}
use Rattle.ua_listing.proofs.leasts.visit_constants.Given as goal

abbrev pub invariant-loop-op : goal.invariant-loop-op
invariant-loop-op l = record {
  width : length l.scratch ≡ length l.table.operations;
  goes : GoesOnTo l.table l.fn.search l.search 1;
  visited : AreConstantsVisited l.table.operations l.table.gens.now.items l.table.rows.items l.search l.op;
}
