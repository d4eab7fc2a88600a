use Rattle.std.proofs.Common.{◌≡◌}
use Rattle.bench_rows.proofs.filling.fill.Given as goal

abbrev pub invariant-loop-number : goal.invariant-loop-number
invariant-loop-number l = l.rows.width ≡ 8

abbrev pub invariant-loop : goal.invariant-loop
invariant-loop l = l.rows-inside.width ≡ 8
