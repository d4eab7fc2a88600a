use Rattle.std.proofs.Common.{◌≡◌, ◌≢◌, ℕ, ◌<◌, length}
use Rattle.std.specs.Prelude.{slice_index}
use Rattle.std.specs.List.{AllByRecursion}
use Rattle.ua_columns.specs.Columns.{AreBelow, entry_of}
use Rattle.ua_columns.proofs.columns.write_lane.Given as goal

abbrev pub invariant-loop-x : goal.invariant-loop-x
invariant-loop-x l = record {
  long : length l.block ≡ length l.initial.block;
  low : (n : ℕ) → AllByRecursion (λ x. x < n) l.v → AreBelow n l.initial.block → AreBelow n l.block;
  lane : (k : ℕ) → k < l.x → entry_of l.block l.lane k ≡ slice_index l.v k;
  others : (r k : ℕ) → r ≢ l.lane → entry_of l.block r k ≡ entry_of l.initial.block r k;
}
