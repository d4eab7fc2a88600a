use Rattle.ua_bases.specs.Steps.{AreRowsIn}
use Rattle.ua_core_tests.proofs.advanced.rows_from.Given as goal

abbrev pub invariant-loop-k : goal.invariant-loop-k
invariant-loop-k g l = AreRowsIn l.frame l.rows
