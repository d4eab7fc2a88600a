-- A search by levels on its way, with the trails of its marks.
use Rattle.std.specs.Prelude.{◌≡◌, ◌⊎◌, ℕ, zero, suc, ◌+◌, ◌≤◌, min, Bool, false, Option, Some, None, List, length, slice_index, slice_index_or, Contains, slice_set, replicate}
use Rattle.ua_climb.specs.Networks.{Network, IsLinked}
use Rattle.ua_climb.specs.Marks.{HasSource, unmarked, IsOpened, AreFull}

-- from one state the members of a class are marked, and those that were not are added to the next ones
pub record Enters (p : ℕ) (members : List ℕ) (from : List (Option ℕ)) (next : List ℕ) (from' : List (Option ℕ)) (next' : List ℕ) : Type 0 where
  pub states : length from' ≡ length from
  pub kept : (t q : ℕ) → slice_index_or from t None ≡ Some q → slice_index_or from' t None ≡ Some q
  pub new : (t q : ℕ) → slice_index_or from' t None ≡ Some q → (slice_index_or from t None ≡ Some q) ⊎ ((q ≡ p) × Contains members t × Contains next' t)
  pub before : (t : ℕ) → Contains next t → Contains next' t
  pub fresh : (t : ℕ) → Contains next' t → Contains next t ⊎ HasSource from' t
  pub all : (t : ℕ) → Contains members t → HasSource from' t
  pub count : unmarked from' + length next' ≡ unmarked from + length next

-- the marks lead from the state back to the start in so many links
abbrev pub IsTrail : Network → List (Option ℕ) → ℕ → ℕ → ℕ → Type 0
IsTrail g from start t zero = t ≡ start
IsTrail g from start t (suc n) = (p : ℕ) × (slice_index_or from t None ≡ Some p) × IsLinked g p t × IsTrail g from start p n

-- the marks lead back so many times
abbrev pub IsLine : List (Option ℕ) → ℕ → ℕ → Type 0
IsLine from t zero = Unit {0}
IsLine from t (suc n) = (p : ℕ) × (slice_index_or from t None ≡ Some p) × IsLine from p n

-- a trail of at most so many links
pub record HasTrail (g : Network) (from : List (Option ℕ)) (start t most : ℕ) : Type 0 where
  pub links : ℕ
  pub few : links ≤ most
  pub trail : IsTrail g from start t links

-- a walk of so many links
abbrev pub IsTour : Network → ℕ → ℕ → ℕ → Type 0
IsTour g start t zero = t ≡ start
IsTour g start t (suc n) = (p : ℕ) × IsTour g start p n × IsLinked g p t

-- the start alone is marked, as reached from itself
pub record IsBegun (g : Network) (start : ℕ) (from : List (Option ℕ)) (opened : List Bool) : Type 0 where
  pub from_is : from ≡ slice_set (replicate (length g.leads) None) start (Some start)
  pub opened_is : opened ≡ replicate (length g.members) false

-- what a search by levels keeps: the states at most so many links away are marked, with a trail each, and none of them is an end; those whose class was not opened yet are on the frontier
pub record IsSearched (g : Network) (start : ℕ) (ends : List ℕ) (level : ℕ) (from : List (Option ℕ)) (opened : List Bool) (frontier : List ℕ) : Type 0 where
  pub states : length from ≡ length g.leads
  pub classes : length opened ≡ length g.members
  pub trails : (t : ℕ) → HasSource from t → HasTrail g from start t level
  pub near : (n t : ℕ) → n ≤ level → IsTour g start t n → HasSource from t
  pub frontier_marked : (t : ℕ) → Contains frontier t → HasSource from t
  pub pending : (t : ℕ) → HasSource from t → IsOpened opened (slice_index g.leads t) ⊎ Contains frontier t
  pub full : AreFull g from opened
  pub unended : (t : ℕ) → Contains ends t → HasSource from t → ⊥
  pub count : level + unmarked from + min 1 (length frontier) ≤ length g.leads
