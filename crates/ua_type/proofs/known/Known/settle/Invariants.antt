use Rattle.std.proofs.Common.{◌≡◌, ◌⊎◌, ◌<◌, ℕ, true}
use Rattle.std.specs.Prelude.{Contains, slice_index_or}
use Rattle.std.specs.HashSet as set
use Rattle.ua_part.specs.Labels.{same_labels}
use Rattle.ua_type.proofs.known.Known.settle.Given as goal

abbrev pub invariant-loop-pair : goal.invariant-loop-pair
invariant-loop-pair l = record {
  least : l.self.least ≡ l.fn.self.least;
  settled : (q : ℕ × ℕ) → set.contains same_labels l.self.settled q ≡ true → (set.contains same_labels l.fn.self.settled q ≡ true) ⊎ Contains l.pairs q;
  kept : (q : ℕ × ℕ) → set.contains same_labels l.fn.self.settled q ≡ true → set.contains same_labels l.self.settled q ≡ true;
  added : (k : ℕ) → k < l.pair-index → set.contains same_labels l.self.settled (slice_index_or l.pairs k (0, 0)) ≡ true;
}
