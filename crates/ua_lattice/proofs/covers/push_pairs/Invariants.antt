use Rattle.std.proofs.Common.{◌≡◌, ◌++◌, take}
use Rattle.ua_lattice.specs.inner.Places.{pairs_from}
use Rattle.ua_lattice.proofs.covers.push_pairs.Given as goal

abbrev pub invariant-loop-k : goal.invariant-loop-k
invariant-loop-k l = l.covers.items ≡ l.fn.covers.items ++ pairs_from l.i (take l.k l.places)
