use Rattle.std.proofs.Common.{◌≡◌, [], length}
use Rattle.std.specs.List.{AllByRecursion}
use Rattle.ua_lanes.specs.Windows.{IsWindow}
use Rattle.ua_lanes.proofs.small_lanes.windows_for.Given as goal

abbrev pub invariant-loop : goal.invariant-loop
invariant-loop l = record {
  many : length l.windows.items ≡ l.index;
  windows : AllByRecursion (IsWindow l.frame l.in_bytes []) l.windows.items;
}
