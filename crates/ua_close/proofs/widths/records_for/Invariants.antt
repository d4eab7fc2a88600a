use Rattle.std.proofs.Common.{◌≡◌, ◌≤◌, take}
use Rattle.ua_close.specs.Kinds.{cardinality}
use Rattle.ua_close.proofs.widths.records_for.Given as goal

abbrev pub invariant-loop-i : goal.invariant-loop-i
invariant-loop-i l = record {
  some : 1 ≤ l.vectors;
  within : l.vectors ≤ l.budget;
  are : cardinality (take l.i l.frame) ≡ l.vectors;
}
