use Rattle.std.proofs.Common.{◌≡◌, ◌<◌, ◌^◌, take}
use Rattle.ua_table.specs.Algebras.{numeral}
use Rattle.ua_lanes.proofs.lines.number_of.Given as goal

abbrev pub invariant-loop-x : goal.invariant-loop-x
invariant-loop-x l = record {
  number : l.number ≡ numeral l.size (take l.x-index l.args);
  below : l.number < l.size ^ l.x-index;
}
