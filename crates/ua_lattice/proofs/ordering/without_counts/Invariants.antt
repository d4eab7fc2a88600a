use Rattle.std.proofs.Common.{◌≡◌, ◌++◌}
use Rattle.std.specs.List.{AllByRecursion}
use Rattle.std.specs.Vec.Iter.{into_iter_items, into_iter_len}
use Rattle.ua_part.specs.Partitions.{IsPart}
use Rattle.ua_lattice.specs.inner.Ordering.{partitions_of}
use Rattle.ua_lattice.proofs.ordering.without_counts.Given as goal

abbrev pub invariant-list : goal.invariant-list
invariant-list l = record {
  partitions : l.parts.items ++ partitions_of (into_iter_items l.rest) ≡ partitions_of l.fn.list.items;
  rest : AllByRecursion IsPart (partitions_of (into_iter_items l.rest));
}

abbrev pub decreases-list : goal.decreases-list
decreases-list l = into_iter_len l.rest
