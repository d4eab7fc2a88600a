-- The digits of a block of columns.
use Rattle.std.specs.Prelude.{◌≡◌, ℕ, ◌+◌, ◌-◌, ◌*◌, ◌<◌, Bool, List, [], length, map, slice_index, slice_index_or}
use Rattle.std.specs.List.{range_with_len}
use Rattle.std.specs.Simd.Lanes.{number_l}
use Rattle.ua_columns.specs.Columns.{digits, base, entry_of}

-- words of a block: in each place one for each lane, with the values at the entries of that lane as digits
abbrev pub AreDigits : Bool → (ℕ → ℕ → ℕ) → List (List (List ℕ)) → List (List ℕ) → Type 0
AreDigits in_bytes f block words =
    (j r : ℕ) → j < length words → r < 16
    → slice_index (slice_index_or words j []) r
    ≡ number_l (base in_bytes)
    (map (λ c. f (digits in_bytes * j + c) (entry_of block r (digits in_bytes * j + c))) (range_with_len 0 (digits in_bytes)))
