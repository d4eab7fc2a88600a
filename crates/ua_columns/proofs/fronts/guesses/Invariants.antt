use Rattle.std.proofs.Common.{◌≡◌, ◌<◌, length}
use Rattle.std.specs.List.{AllByRecursion}
use Rattle.ua_columns.proofs.fronts.guesses.Given as goal

abbrev pub invariant-loop-r : goal.invariant-loop-r
invariant-loop-r l = record {
  long : length l.guesses ≡ 16;
  below : AllByRecursion (λ i. i < l.count) l.guesses;
}
