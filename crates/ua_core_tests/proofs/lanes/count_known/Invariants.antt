use Rattle.std.proofs.Common.{◌≡◌}
use Rattle.ua_core_tests.proofs.lanes.count_known.Given as goal

abbrev pub invariant-loop-number : goal.invariant-loop-number
invariant-loop-number g l = l.lanes ≡ l.fn.lanes
