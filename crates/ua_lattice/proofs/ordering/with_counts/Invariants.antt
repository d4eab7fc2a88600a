use Rattle.std.proofs.Common.{◌≡◌, take}
use Rattle.std.specs.List.{AllByRecursion}
use Rattle.ua_lattice.specs.inner.Ordering.{IsCounted, partitions_of}
use Rattle.ua_lattice.proofs.ordering.with_counts.Given as goal

abbrev pub invariant-loop-i : goal.invariant-loop-i
invariant-loop-i l = record {
  partitions : partitions_of l.list.items ≡ take l.i l.rows.items;
  counts : AllByRecursion IsCounted l.list.items;
}
