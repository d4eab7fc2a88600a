use Rattle.ua_listing.specs.inner.Searches.{GoesOnTo, AreGeneratorsVisited}
use Rattle.ua_listing.proofs.leasts.visit_generators.Given as goal

abbrev pub invariant-loop-index : goal.invariant-loop-index
invariant-loop-index l = record {
  goes : GoesOnTo l.table l.fn.search l.search 0;
  visited : AreGeneratorsVisited l.table.operations l.table.gens.now.items l.table.rows.items l.search l.index;
}
