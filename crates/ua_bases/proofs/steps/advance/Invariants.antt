use Rattle.std.proofs.Common.{◌≡◌, length}
use Rattle.ua_bases.specs.Bases.{IsBasis}
use Rattle.ua_bases.proofs.steps.advance.Given as goal

abbrev pub invariant-loop : goal.invariant-loop
invariant-loop l = record {
  basis : IsBasis l.operations l.op l.rows.items l.basis;
  width : length l.scratch ≡ length l.operations;
}
