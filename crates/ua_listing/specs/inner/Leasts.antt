-- Positions by height.
use Rattle.std.specs.Prelude.{◌≡◌, ◌⊎◌, ℕ, ◌<◌, List, length, slice_index}
use Rattle.ua_table.specs.Counting.{EachOnceBelow}

-- row i is lower than row j, or it is as high and stands before it
abbrev pub ComesBefore : List ℕ → ℕ → ℕ → Type 0
ComesBefore heights i j = (slice_index heights i < slice_index heights j) ⊎ ((slice_index heights i ≡ slice_index heights j) × (i < j))

-- all positions, by height and then by position
pub record AreByHeight (heights places : List ℕ) : Type 0 where
  pub count : length places ≡ length heights
  pub once : EachOnceBelow (length heights) places
  pub ascending : (j k : ℕ) → j < k → k < length places → ComesBefore heights (slice_index places j) (slice_index places k)
