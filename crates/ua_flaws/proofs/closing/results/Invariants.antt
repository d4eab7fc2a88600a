use Rattle.std.proofs.Common.{◌≡◌, ◌-◌, length, map}
use Rattle.std.specs.List.{range_with_len}
use Rattle.ua_table.specs.Refusals.{first_refusal}
use Rattle.ua_flaws.specs.Closing.{missing, missing_of}
use Rattle.ua_flaws.proofs.closing.results.Given as goal

-- nothing is missing by the operations so far
abbrev pub invariant-loop-op : goal.invariant-loop-op
invariant-loop-op l = record {
  scratch : length l.scratch ≡ length l.table.operations;
  rest : missing l.table.operations l.table.rows.now.items ≡ first_refusal (map (missing_of l.table.operations l.table.rows.now.items) (range_with_len l.op (length l.a.operations - l.op)));
}
