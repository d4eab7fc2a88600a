-- Where names stand in a list.
use Rattle.std.specs.Prelude.{◌≡◌, ℕ, suc, if◌then◌else◌, List, [], ◌∷◌, Option, Some, None}
use Rattle.std.specs.Borrow.{Bor}
use Rattle.std.specs.BTreeMap.{BTreeMap, get_by}
use Rattle.std.specs.Cmp.Lexicographic.{slice_cmp}
use Rattle.std.specs.Ordering.{nat_cmp}
use Rattle.ua_text.specs.Words.{same}

-- the place of the first name that the text is, where the list begins at this place
abbrev pub place_in : ℕ → List (List ℕ) → List ℕ → Option ℕ
place_in n [] t = None
place_in n (name ∷ names) t = if same t name then Some n else place_in (suc n) names t

-- the map gives the place of each text
abbrev pub IsIndex : BTreeMap (Bor (List ℕ)) ℕ → List (List ℕ) → Type 0
IsIndex places names = (t : List ℕ) → get_by (λ k. slice_cmp nat_cmp t k.now) places ≡ place_in 0 names t
