use Rattle.ua_lattice.proofs.CountLaws.{AreIrreducibleOfFirst}
use Rattle.ua_lattice.proofs.irreducibles.irreducibles_of.Given as goal

abbrev pub invariant-loop-j : goal.invariant-loop-j
invariant-loop-j l = AreIrreducibleOfFirst l.covers l.j l.places.items
