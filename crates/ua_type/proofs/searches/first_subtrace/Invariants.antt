use Rattle.ua_type.specs.inner.Outcomes.{AreVainBelow}
use Rattle.ua_type.specs.inner.Known.{IsKnown}
use Rattle.ua_type.proofs.searches.first_subtrace.Given as goal

abbrev pub invariant-loop-x : goal.invariant-loop-x
invariant-loop-x g l = AreVainBelow l.b l.theta l.run.budget l.x × IsKnown l.b l.theta l.run.budget l.known
