use Rattle.std.proofs.Common.{◌≡◌, ◌<◌, length}
use Rattle.std.specs.List.{AllByRecursion}
use Rattle.ua_table.specs.Algebras.{IsVector}
use Rattle.bench_rows.proofs.closing.enter_sums.Given as goal

abbrev pub invariant-loop-other : goal.invariant-loop-other
invariant-loop-other l = record {
  width : l.rows.width ≡ length l.operations;
  rows : AllByRecursion (IsVector l.operations) l.rows.items;
  last : l.last < length l.rows.items;
  out : length l.out ≡ length l.operations;
}
