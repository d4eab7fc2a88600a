use Rattle.std.proofs.Common.{◌≡◌, ◌≤◌, ◌-◌, length}
use Rattle.std.specs.List.{AllByRecursion}
use Rattle.ua_columns.proofs.fronts.front_of.Given as goal

abbrev pub invariant-loop-i : goal.invariant-loop-i
invariant-loop-i l = record {
  long : length l.front.items ≡ l.slots;
  named : AllByRecursion (λ r. r ≤ l.count - 1) l.front.items;
}
