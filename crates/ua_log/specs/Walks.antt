-- The walk through the slices, a unit after the other.
use Rattle.std.specs.Prelude.{◌≡◌, ◌↔◌, ℕ, ◌+◌, ◌<◌, List}
use Rattle.ua_table.specs.Slices.{slices_of, first_slice, slice_at}

-- slice s is part j of unit u exactly where the unit has such a part, and s is j more than the number of its first slice
abbrev pub IsOneWalk : List ℕ → Type 0
IsOneWalk ks = (s u j : ℕ) → (slice_at ks s ≡ (u, j)) ↔ ((j < slices_of ks u) × (first_slice ks u + j ≡ s))
