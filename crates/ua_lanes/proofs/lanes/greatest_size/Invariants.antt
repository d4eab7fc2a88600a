use Rattle.std.proofs.Common.{ℕ, ◌<◌, ◌≤◌}
use Rattle.ua_lanes.specs.Lines.{size_at}
use Rattle.ua_lanes.proofs.lanes.greatest_size.Given as goal

abbrev pub invariant-loop-x : goal.invariant-loop-x
invariant-loop-x l = record {
  some : 0 < l.greatest;
  small : l.greatest ≤ 1000;
  sizes : (k : ℕ) → k < l.x → size_at l.frame k ≤ l.greatest;
}
