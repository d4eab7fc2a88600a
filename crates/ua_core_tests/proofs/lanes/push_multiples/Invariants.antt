use Rattle.std.proofs.Common.{◌≡◌, length}
use Rattle.ua_core_tests.proofs.lanes.push_multiples.Given as goal

abbrev pub invariant-loop-number : goal.invariant-loop-number
invariant-loop-number l = (l.lanes.product ≡ l.frame) × (length l.lanes.items ≡ l.number)
