use Rattle.ua_sub.specs.inner.Twins.{AreFound}
use Rattle.ua_sub.proofs.twins.twin.Given as goal

abbrev pub invariant-loop-last : goal.invariant-loop-last
invariant-loop-last l = AreFound l.question l.found
