use Rattle.std.proofs.Common.{◌+◌, ◌<◌}
use Rattle.std.specs.List.{AllByRecursion}
use Rattle.ua_sub.specs.inner.Twins.{HasGrown}
use Rattle.ua_sub.proofs.twins.take_along.Given as goal

abbrev pub invariant-loop : goal.invariant-loop
invariant-loop l = HasGrown l.question l.fn.found l.found × AllByRecursion (λ p. p < l.last + 1) l.places
