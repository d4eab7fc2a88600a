use Rattle.ua_table.specs.Numbering.{IsShape}
use Rattle.ua_table_tests.proofs.numbering.shape.Given as goal

abbrev pub invariant-loop-k : goal.invariant-loop-k
invariant-loop-k l = IsShape l.list.items
