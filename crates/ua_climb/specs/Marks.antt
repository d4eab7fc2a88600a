-- What a search has marked: from which state each state was reached first, and which classes were opened.
use Rattle.std.specs.Prelude.{◌≡◌, ◌⊎◌, ℕ, ◌+◌, Bool, true, false, Option, Some, None, is_none, List, length, slice_index, slice_index_or, count_by, Contains}
use Rattle.ua_climb.specs.Networks.{Network, members_of, IsLinked}

-- the state was reached from some state
abbrev pub HasSource : List (Option ℕ) → ℕ → Type 0
HasSource from t = (p : ℕ) × (slice_index_or from t None ≡ Some p)

-- how many states were not reached
abbrev pub unmarked : List (Option ℕ) → ℕ
unmarked from = count_by is_none from

-- the class was opened
abbrev pub IsOpened : List Bool → ℕ → Type 0
IsOpened opened c = slice_index_or opened c false ≡ true

-- the members of each opened class are marked
abbrev pub AreFull : Network → List (Option ℕ) → List Bool → Type 0
AreFull g from opened = (c t : ℕ) → IsOpened opened c → Contains (members_of g c) t → HasSource from t

-- the classes of some states are opened
pub record Opens (g : Network) (sources : List ℕ) (from : List (Option ℕ)) (opened : List Bool) (next : List ℕ) (from' : List (Option ℕ)) (opened' : List Bool) (next' : List ℕ) : Type 0 where
  pub states : length from' ≡ length from
  pub classes : length opened' ≡ length opened
  pub kept : (t q : ℕ) → slice_index_or from t None ≡ Some q → slice_index_or from' t None ≡ Some q
  pub new : (t q : ℕ) → slice_index_or from' t None ≡ Some q → (slice_index_or from t None ≡ Some q) ⊎ (Contains sources q × IsLinked g q t × Contains next' t)
  pub before : (t : ℕ) → Contains next t → Contains next' t
  pub fresh : (t : ℕ) → Contains next' t → Contains next t ⊎ HasSource from' t
  pub opens : (s : ℕ) → Contains sources s → IsOpened opened' (slice_index g.leads s)
  pub stays : (c : ℕ) → IsOpened opened c → IsOpened opened' c
  pub full : AreFull g from opened → AreFull g from' opened'
  pub count : unmarked from' + length next' ≡ unmarked from + length next
