use Rattle.std.proofs.Common.{◌≡◌, ◌<◌, length}
use Rattle.std.specs.Prelude.{Contains}
use Rattle.ua_bases.proofs.steps.choose.Given as goal

abbrev pub invariant-loop-other : goal.invariant-loop-other
invariant-loop-other l = record {
  low : l.row < length l.rows.items;
  missing : ¬ Contains l.basis.queue l.row;
  width : length l.scratch ≡ length l.operations;
}
