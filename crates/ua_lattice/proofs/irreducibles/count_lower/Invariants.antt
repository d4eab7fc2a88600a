use Rattle.ua_lattice.proofs.CountLaws.{AreCounted}
use Rattle.ua_lattice.proofs.irreducibles.count_lower.Given as goal

abbrev pub invariant-loop-k : goal.invariant-loop-k
invariant-loop-k l = AreCounted l.covers l.count l.k l.counts.items
