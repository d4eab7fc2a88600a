use Rattle.std.proofs.Common.{◌≡◌, ◌≤◌, length}
use Rattle.std.specs.List.{AllByRecursion}
use Rattle.ua_table.specs.Algebras.{Vector}
use Rattle.ua_rows.specs.Applied.{AreApplied}
use Rattle.ua_rows.proofs.prepared.Operations.apply_unary_at_each.Given as goal

abbrev pub invariant-loop-k : goal.invariant-loop-k
invariant-loop-k l = record {
  room : length l.args ≤ length l.out;
  widths : AllByRecursion (λ (v : Vector). length v ≡ length l.fn.self) l.out;
  applied : AreApplied l.fn.self l.op l.rows.items l.args l.k l.out;
}

abbrev pub invariant-loop-k-2 : goal.invariant-loop-k-2
invariant-loop-k-2 l = record {
  room : length l.args ≤ length l.out;
  widths : AllByRecursion (λ (v : Vector). length v ≡ length l.fn.self) l.out;
  applied : AreApplied l.fn.self l.op l.rows.items l.args l.k l.out;
}
