use Rattle.std.proofs.Common.{◌≤◌}
use Rattle.bench_rows.proofs.filling.present.Given as goal

abbrev pub invariant-loop-number : goal.invariant-loop-number
invariant-loop-number l = l.present ≤ l.number
