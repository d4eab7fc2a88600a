use Rattle.std.proofs.Common.{take}
use Rattle.ua_chain.specs.inner.Closures.{AreMarkedNumbers}
use Rattle.ua_chain.proofs.chains.marked_numbers.Given as goal

abbrev pub invariant-loop-i : goal.invariant-loop-i
invariant-loop-i l = AreMarkedNumbers (take l.i l.marks) l.numbers.items
