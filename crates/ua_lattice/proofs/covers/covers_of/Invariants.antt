use Rattle.std.proofs.Common.{◌≡◌, length}
use Rattle.ua_lattice.specs.inner.Places.{AreCoversOfFirst}
use Rattle.ua_lattice.proofs.covers.covers_of.Given as goal

abbrev pub invariant-loop-i : goal.invariant-loop-i
invariant-loop-i l = record {
  covers : AreCoversOfFirst l.algebra l.list l.i l.covers.items;
  joiner : length l.joiner.row.items ≡ length l.fn.joiner.row.items;
}
