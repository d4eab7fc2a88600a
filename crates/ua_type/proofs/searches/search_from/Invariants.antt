use Rattle.ua_type.specs.inner.Outcomes.{AreVainAt}
use Rattle.ua_type.specs.inner.Known.{IsKnown}
use Rattle.ua_type.proofs.searches.search_from.Given as goal

abbrev pub invariant-loop-y : goal.invariant-loop-y
invariant-loop-y g l = AreVainAt l.b l.theta l.run.budget l.x l.y × IsKnown l.b l.theta l.run.budget l.known
