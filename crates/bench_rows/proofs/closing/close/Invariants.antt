use Rattle.std.proofs.Common.{◌≡◌, length}
use Rattle.std.specs.List.{AllByRecursion}
use Rattle.ua_table.specs.Algebras.{IsVector}
use Rattle.bench_rows.proofs.closing.close.Given as goal

abbrev pub invariant-loop-j : goal.invariant-loop-j
invariant-loop-j l = record {
  width : l.rows.width ≡ length l.frame;
  rows : AllByRecursion (IsVector l.frame) l.rows.items;
}

abbrev pub invariant-loop-last : goal.invariant-loop-last
invariant-loop-last l = record {
  width : l.rows.width ≡ length l.fn.frame;
  rows : AllByRecursion (IsVector l.fn.frame) l.rows.items;
  out : length l.out ≡ length l.fn.frame;
}
