use Rattle.std.proofs.Common.{◌<◌, take}
use Rattle.std.specs.List.{AllByRecursion}
use Rattle.ua_calls_tests.proofs.given.are_below.Given as goal

abbrev pub invariant-loop-x : goal.invariant-loop-x
invariant-loop-x l = AllByRecursion (λ x. x < l.size) (take l.x-index l.elements)
