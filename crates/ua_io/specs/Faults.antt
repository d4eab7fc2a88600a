-- What a call does to the count of faults of a source or a sink, and to the bytes that it tells.
use Rattle.std.specs.Prelude.{◌≡◌, ◌⊎◌, ℕ, ◌-◌, ◌^◌, ◌<◌, ◌≤◌, List, length, take, Option}
use Rattle.std.specs.Io.KnownBytes.{Appends, Consumes}

-- a count of faults rose in a call: it is greater after it, or it stood at the last value of a `u64` before it
abbrev pub Rose : ℕ → ℕ → Type 0
Rose before after = (before < after) ⊎ (before ≡ 2 ^ 64 - 1)

-- the first of the bytes were appended, some of them or all
abbrev pub AppendsFront : Option (List ℕ) → Option (List ℕ) → List ℕ → Type 0
AppendsFront old new bytes = (n : ℕ) × Appends old new (take n bytes)

-- n bytes were taken
abbrev pub TakesCount : Option (List ℕ) → Option (List ℕ) → ℕ → Type 0
TakesCount old new n = (bytes : List ℕ) × (length bytes ≡ n) × Consumes old new bytes

-- n bytes were taken, or fewer
abbrev pub TakesAtMost : Option (List ℕ) → Option (List ℕ) → ℕ → Type 0
TakesAtMost old new n = (bytes : List ℕ) × (length bytes ≤ n) × Consumes old new bytes
