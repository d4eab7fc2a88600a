use Rattle.std.proofs.Common.{◌≡◌}
use Rattle.ua_table.specs.Listings.{vectors_of}
use Rattle.ua_type.specs.inner.Known.{AreMetBelow}
use Rattle.ua_type.proofs.known.Known.meet_all.Given as goal

abbrev pub invariant-loop-i : goal.invariant-loop-i
invariant-loop-i l = (l.self.settled ≡ l.fn.self.settled) × AreMetBelow l.fn.self.least (vectors_of l.list) l.i l.self.least
