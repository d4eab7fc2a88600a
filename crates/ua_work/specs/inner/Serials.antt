-- The turn at which a slice begins.
use Rattle.std.specs.Prelude.{ℕ, List, [], ◌∷◌}
use Rattle.ua_table.specs.Slices.{slice_unit, slice_start}

-- the turn of the first tuple of a slice
abbrev pub turn_from : List ℕ → ℕ → List ℕ
turn_from ks s = 2 ∷ slice_unit ks s ∷ slice_start ks s ∷ []
