use Rattle.std.proofs.Common.{ℕ, ◌<◌}
use Rattle.std.specs.Prelude.{slice_index}
use Rattle.ua_part.specs.Partitions.{LiesBelow}
use Rattle.ua_lattice.specs.Lattices.{at}
use Rattle.ua_lattice.proofs.least.lies_above_one.Given as goal

abbrev pub invariant-loop-k : goal.invariant-loop-k
invariant-loop-k l = (m : ℕ) → m < l.k → ¬ LiesBelow (at l.list (slice_index l.places m)) (at l.list l.place)
