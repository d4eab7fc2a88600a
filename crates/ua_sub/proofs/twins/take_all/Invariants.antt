use Rattle.ua_sub.specs.inner.Twins.{HasGrown}
use Rattle.ua_sub.proofs.twins.take_all.Given as goal

abbrev pub invariant-loop-op : goal.invariant-loop-op
invariant-loop-op l = HasGrown l.question l.fn.found l.found
