use Rattle.std.proofs.Common.{◌≡◌, length}
use Rattle.ua_rows.specs.Applied.{AreFound}
use Rattle.ua_rows.proofs.ahead.seek_each.Given as goal

abbrev pub invariant-loop-k : goal.invariant-loop-k
invariant-loop-k l = record {
  long : length l.found ≡ 16;
  found : AreFound l.operations l.op l.rows.items l.args l.k l.found;
}
