use Rattle.ua_sub.specs.inner.Twins.{HasGrown}
use Rattle.ua_sub.proofs.twins.take_by.Given as goal

abbrev pub invariant-loop-fixed : goal.invariant-loop-fixed
invariant-loop-fixed l = HasGrown l.question l.fn.found l.found
