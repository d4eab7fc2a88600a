use Rattle.std.proofs.Common.{◌≡◌, length}
use Rattle.ua_lattice.proofs.CoverLaws.{AreJoinPlacesOfFirst}
use Rattle.ua_lattice.proofs.covers.joins_above.Given as goal

abbrev pub invariant-loop-k : goal.invariant-loop-k
invariant-loop-k l = record {
  places : AreJoinPlacesOfFirst l.rows.items l.generators l.i l.k l.places.items;
  joiner : length l.joiner.row.items ≡ length l.fn.joiner.row.items;
}
