use Rattle.std.proofs.Common.{◌<◌, ℕ, []}
use Rattle.std.specs.Prelude.{slice_index_or, Contains}
use Rattle.ua_lattice.specs.inner.Searches.{HasFound}
use Rattle.ua_lattice.proofs.joins.take_in_all.Given as goal

abbrev pub invariant-loop-i : goal.invariant-loop-i
invariant-loop-i l = record {
  found : HasFound l.search l.found l.joiner;
  there : (k : ℕ) → k < l.i → Contains l.found.rows.items (slice_index_or l.parts k []);
}
