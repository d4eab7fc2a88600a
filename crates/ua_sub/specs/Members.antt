-- The elements that elements of an algebra generate.
use Rattle.std.specs.Prelude.{◌≡◌, ℕ, ◌<◌, List, [], ◌∷◌, length, map, slice_index, Contains, ◌↔◌, Vec}
use Rattle.std.specs.declared.alloc.Global.{Global}
use Rattle.std.specs.List.{AllByRecursion, AllZip}
use Rattle.std.specs.List.Sorted.{IsStrictlyIncreasing}
use Rattle.ua_table.specs.Algebras.{FiniteAlgebra, Vector, arities_of, value_at}
use Rattle.ua_table.specs.Counting.{numbers_below}
use Rattle.ua_table.specs.Generated.{Sg}

-- the vectors of one coordinate with these entries
abbrev pub singles : List ℕ → List Vector
singles xs = map (λ x. x ∷ []) xs

-- the elements that these generate, ascending
pub record AreMembers (a : FiniteAlgebra) (gens members : List ℕ) : Type 0 where
  pub ascending : IsStrictlyIncreasing members
  pub exact : (x : ℕ) → Contains members x ↔ Sg (a ∷ []) (singles gens) (x ∷ [])

-- where these are as many of the members as operation f takes, its value at them is a member
abbrev pub HoldsValueAt : FiniteAlgebra → List ℕ → ℕ → List ℕ → Type 0
HoldsValueAt a members f args = f < length (arities_of a) → length args ≡ slice_index (arities_of a) f → AllByRecursion (Contains members) args → Contains members (value_at a f args)

-- what the lists hold
abbrev pub contents : List (Vec ℕ Global) → List (List ℕ)
contents lists = map (λ (v : Vec ℕ Global). v.items) lists

-- what each element alone generates, in order
abbrev pub AreOnes : FiniteAlgebra → List (List ℕ) → Type 0
AreOnes a lists = AllZip (λ x members. AreMembers a (x ∷ []) members) (numbers_below a.size) lists

-- there are elements that these generate
pub record HasMembers (a : FiniteAlgebra) (gens : List ℕ) : Type 0 where
  pub members : List ℕ
  pub are : AreMembers a gens members

-- there is what each element alone generates
pub record HasOnes (a : FiniteAlgebra) : Type 0 where
  pub lists : List (List ℕ)
  pub are : AreOnes a lists
