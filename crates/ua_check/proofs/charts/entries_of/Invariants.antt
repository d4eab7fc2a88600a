use Rattle.std.proofs.Common.{◌≡◌, ◌≤◌, length}
use Rattle.ua_identity.specs.Patterns.{fillings}
use Rattle.ua_identity.specs.KindTables.{pattern_at}
use Rattle.ua_check.specs.inner.ChartsOf.{AreEntriesBelow}
use Rattle.ua_check.proofs.charts.entries_of.Given as goal

-- the entries of the rows so far
abbrev pub invariant-loop-i : goal.invariant-loop-i
invariant-loop-i l = record {
  width : l.entries.width ≡ length (fillings l.chart.size (pattern_at l.chart.kind.now.patterns l.fn.m));
  few : length l.entries.items ≤ l.i;
  entries : AreEntriesBelow l.chart (pattern_at l.chart.kind.now.patterns l.fn.m) l.marks l.i l.entries.items;
}
