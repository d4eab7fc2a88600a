-- Keys found in a block, and the values at the entries of a word.
use Rattle.std.specs.Prelude.{◌≡◌, ℕ, ◌+◌, ◌-◌, ◌*◌, ◌<◌, List, length, map, slice_index}
use Rattle.std.specs.List.{range_with_len}
use Rattle.ua_rows.specs.Words.{lanes_of}
use Rattle.ua_columns.specs.Tiles.{key_at}

-- the values of four lines at the entries of a word
abbrev pub values_in_word : List ℕ → ℕ → ℕ → List ℕ
values_in_word lines size word = map (λ e. slice_index lines (e * size + slice_index (lanes_of word) e)) (range_with_len 0 4)

-- the key is one of so many
abbrev pub IsOneOf : List ℕ → ℕ → List ℕ → Type 0
IsOneOf keys count key = (i : ℕ) × (i < count) × (key_at keys (length key) i ≡ key)

-- one of so many keys is key r of a block
abbrev pub IsSomeKey : List ℕ → ℕ → ℕ → List ℕ → ℕ → Type 0
IsSomeKey keys words count block r = (i : ℕ) × (i < count) × (key_at keys words i ≡ key_at block words r)
