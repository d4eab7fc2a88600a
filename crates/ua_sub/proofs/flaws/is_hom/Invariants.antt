use Rattle.std.proofs.Common.{ℕ, ◌<◌}
use Rattle.ua_sub.specs.inner.Searches.{NoFlawOf}
use Rattle.ua_sub.proofs.flaws.is_hom.Given as goal

abbrev pub invariant-loop-op : goal.invariant-loop-op
invariant-loop-op l = (f : ℕ) → f < l.op → NoFlawOf l.a l.b l.images f
