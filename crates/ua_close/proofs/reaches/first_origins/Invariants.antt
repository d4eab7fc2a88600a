use Rattle.std.proofs.Common.{◌≡◌, ◌≤◌, take}
use Rattle.ua_close.proofs.reaches.first_origins.Given as goal

abbrev pub invariant-loop-i : goal.invariant-loop-i
invariant-loop-i l = record {
  within : l.i ≤ l.count;
  origins : l.origins.items ≡ take l.i l.log.records;
}
