-- How states are numbered, and the groups that classes make.
use Rattle.std.specs.Prelude.{◌≡◌, ◌↔◌, ℕ, ◌+◌, ◌<◌, Bool, not, List, [], ◌∷◌, length, slice_index, slice_index_or, Contains}
use Rattle.ua_climb.specs.Networks.{Network, members_of}
use Rattle.ua_climb.specs.Ladders.{LinkLists, IsAllowed}
use Rattle.ua_climb.specs.Sides.{state}

-- an allowed row, below a bound, that is entered by the class; as the state that stands so far behind
pub record IsEntered (allowed : List Bool) (enters : List ℕ) (first below c t : ℕ) : Type 0 where
  pub row : ℕ
  pub low : row < below
  pub is : t ≡ first + row
  pub allows : IsAllowed allowed row
  pub class : slice_index enters row ≡ c

-- the groups of the rows below a bound
pub record AreGroups (allowed : List Bool) (enters : List ℕ) (classes first below : ℕ) (groups : List (List ℕ)) : Type 0 where
  pub count : length groups ≡ classes
  pub members : (c t : ℕ) → c < classes → Contains (slice_index_or groups c []) t ↔ IsEntered allowed enters first below c t

-- the network of two kinds of links: even states lead to odd ones by the even links, and back by the odd ones
pub record IsOfLinks (allowed : List Bool) (even odd : LinkLists) (g : Network) : Type 0 where
  pub states : length g.leads ≡ length allowed + length allowed
  pub even_leads : (i : ℕ) → i < length allowed → slice_index g.leads i ≡ slice_index even.leads i
  pub odd_leads : (i : ℕ) → i < length allowed → slice_index g.leads (length allowed + i) ≡ even.classes + slice_index odd.leads i
  pub even_groups : (c t : ℕ) → c < even.classes → Contains (members_of g c) t ↔ IsEntered allowed even.enters (length allowed) (length allowed) c t
  pub odd_groups : (c t : ℕ) → c < odd.classes → Contains (members_of g (even.classes + c)) t ↔ IsEntered allowed odd.enters 0 (length allowed) c t

-- the states of rows, of which the first stands at an even index if so
abbrev pub states_of : ℕ → Bool → List ℕ → List ℕ
states_of n side [] = []
states_of n side (i ∷ rest) = state n side i ∷ states_of n (not side) rest
