use Rattle.std.proofs.Common.{◌≡◌}
use Rattle.ua_type.specs.Subtraces.{Generates}
use Rattle.ua_type.specs.inner.Descents.{IsDescent}
use Rattle.ua_type.proofs.descents.descend.Given as goal

abbrev pub invariant-loop : goal.invariant-loop
invariant-loop g l =
    (l.known ≡ l.fn.known) × IsDescent l.b l.run.budget l.descent × Generates l.b l.fn.descent.pair.0 l.fn.descent.pair.1 l.descent.pair.0 l.descent.pair.1
