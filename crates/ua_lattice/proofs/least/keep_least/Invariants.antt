use Rattle.ua_lattice.proofs.LeastLaws.{AreLeastOfFirst}
use Rattle.ua_lattice.proofs.least.keep_least.Given as goal

abbrev pub invariant-loop-k : goal.invariant-loop-k
invariant-loop-k l = AreLeastOfFirst l.list l.places l.k l.least.items
