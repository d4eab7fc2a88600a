-- Walks, and the least of them.
use Rattle.std.specs.Prelude.{◌≡◌, ◌↔◌, ℕ, ◌≤◌, Bool, true, false, List, length, slice_index_or, Contains}
use Rattle.ua_table.specs.Sequences.{Alternates, BeginsWith, EndsWith}
use Rattle.ua_climb.specs.Networks.{Network, IsLinked}

-- states from one to another, each linked to the next
pub record IsWalk (g : Network) (start end : ℕ) (states : List ℕ) : Type 0 where
  pub begins : BeginsWith (λ s. s ≡ start) states
  pub linked : Alternates (IsLinked g) (IsLinked g) states
  pub ends : EndsWith (λ t. t ≡ end) states

-- a walk to one of the ends, and no walk to any of them has fewer states
pub record IsLeastWalk (g : Network) (start : ℕ) (ends : List ℕ) (states : List ℕ) : Type 0 where
  pub end : ℕ
  pub wanted : Contains ends end
  pub walk : IsWalk g start end states
  pub least : (other : ℕ) (others : List ℕ) → Contains ends other → IsWalk g start other others → length states ≤ length others

-- some walk leads to the state
pub record HasWalk (g : Network) (start end : ℕ) : Type 0 where
  pub states : List ℕ
  pub walk : IsWalk g start end states

-- no end is reached, and the states marked are those that are reached
pub record HasNoWalk (g : Network) (start : ℕ) (ends : List ℕ) (marks : List Bool) : Type 0 where
  pub none : (end : ℕ) → Contains ends end → HasWalk g start end → ⊥
  pub count : length marks ≡ length g.leads
  pub reached : (t : ℕ) → slice_index_or marks t false ≡ true ↔ HasWalk g start t
