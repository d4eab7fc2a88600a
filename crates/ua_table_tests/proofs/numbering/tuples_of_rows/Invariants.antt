use Rattle.std.proofs.Common.{◌≤◌, length}
use Rattle.ua_table.specs.Slices.{IsMark}
use Rattle.ua_table_tests.proofs.numbering.tuples_of_rows.Given as goal

abbrev pub invariant-loop-s : goal.invariant-loop-s
invariant-loop-s l = record { mark : IsMark l.shape l.mark; earlier : l.mark.first ≤ l.s }

abbrev pub decreases-loop-tuple : goal.decreases-loop-tuple
decreases-loop-tuple l = length l.tuples
