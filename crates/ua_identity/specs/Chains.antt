-- Chains of terms, each linked to the next by an identity.
use Rattle.std.specs.Prelude.{◌≡◌, ◌↔◌, ℕ, ◌-◌, ◌<◌, ◌≤◌, Bool, not, ◌||◌, List, length, slice_get, slice_index, Some, Contains}
use Rattle.std.specs.List.{AllByRecursion}
use Rattle.ua_table.specs.Algebras.{Vector, FiniteAlgebra, Product, arities_of}
use Rattle.ua_table.specs.Terms.{Tree, IsTerm, eval}
use Rattle.ua_term.specs.Assignments.{IsAssignment, projection}
use Rattle.ua_table.specs.Sequences.{Alternates, BeginsWith, EndsWith, ends_even}
use Rattle.ua_identity.specs.Identities.{VariablePattern, TermIdentity, at_pattern, SatisfiesAll}
use Rattle.ua_identity.specs.Patterns.{vector_of, pattern_power, generators}

-- the term is always what stands at place j of so many
abbrev pub IsPlace : FiniteAlgebra → ℕ → ℕ → Tree → Type 0
IsPlace a places j t = (xs : List ℕ) → IsAssignment a.size places xs → eval a xs t ≡ slice_index xs j

-- how a term of a chain is linked to the next: the one at the first pattern is the other at the second
pub record Link : Type 0 where
  pub pattern : VariablePattern
  pub next : VariablePattern

-- the link holds of two terms at every assignment
abbrev pub AreLinked : FiniteAlgebra → Link → Tree → Tree → Type 0
AreLinked a l d e = (xs : List ℕ) → IsAssignment a.size l.pattern.variables xs → at_pattern a l.pattern d xs ≡ at_pattern a l.next e xs

-- a kind of chain
pub record ChainKind : Type 0 where
  -- how many places its terms have, and at which of them it ends
  pub places : ℕ
  pub end : ℕ
  -- what each term satisfies
  pub own : List TermIdentity
  -- how a term at an even index, and one at an odd index, is linked to the next
  pub even : Link
  pub odd : Link
  -- the patterns of all these, in the order of their coordinates
  pub patterns : List VariablePattern
  -- whether what is reached at even and at odd indices is told apart
  pub by_parity : Bool

-- the term satisfies what each term of a chain does
abbrev pub IsOwn : FiniteAlgebra → ChainKind → Tree → Type 0
IsOwn a kind t = SatisfiesAll a t kind.own

-- these are the values, at all assignments, that each term of a chain has at the patterns of these identities
abbrev pub AreOwnValues : ℕ → ChainKind → List ℕ → Type 0
AreOwnValues size kind values = AllByRecursion (λ (i : TermIdentity). values ≡ projection size i.pattern.variables i.value) kind.own

-- a beginning of a chain: terms of which the first is place 0, and which meet each identity of the chain that speaks of them alone
pub record IsBeginning (a : FiniteAlgebra) (kind : ChainKind) (terms : List Tree) : Type 0 where
  pub terms_are : AllByRecursion (IsTerm (arities_of a) kind.places) terms
  pub first : BeginsWith (IsPlace a kind.places 0) terms
  pub own : AllByRecursion (IsOwn a kind) terms
  pub linked : Alternates (AreLinked a kind.even) (AreLinked a kind.odd) terms

-- a chain: a beginning whose last term is the place at which it ends
pub record IsChain (a : FiniteAlgebra) (kind : ChainKind) (terms : List Tree) : Type 0 where
  pub beginning : IsBeginning a kind terms
  pub last : EndsWith (IsPlace a kind.places kind.end) terms

-- d_0 to d_m is of length m
abbrev pub chain_length : List Tree → ℕ
chain_length terms = length terms - 1

-- a chain, and every chain of its kind is at least as long
pub record IsLeastChain (a : FiniteAlgebra) (kind : ChainKind) (terms : List Tree) : Type 0 where
  pub chain : IsChain a kind terms
  pub least : (others : List Tree) → IsChain a kind others → chain_length terms ≤ chain_length others

-- whether the index of the last term is told among the even ones: each is where they are not told apart
abbrev pub is_among_even : ChainKind → List Tree → Bool
is_among_even kind terms = ends_even terms || not kind.by_parity

-- the power in which the vectors of the terms lie, on the patterns of the kind
abbrev pub power_of : FiniteAlgebra → ChainKind → Product
power_of a kind = pattern_power a kind.patterns

-- the vectors of its places, which generate those of the terms
abbrev pub generators_of : FiniteAlgebra → ChainKind → List Vector
generators_of a kind = generators a kind.patterns kind.places

-- the row is the vector of the last term of some beginning, whose index is told among the even ones if so
pub record IsReached (a : FiniteAlgebra) (kind : ChainKind) (even : Bool) (row : Vector) : Type 0 where
  pub terms : List Tree
  pub beginning : IsBeginning a kind terms
  pub parity : is_among_even kind terms ≡ even
  pub reaches : EndsWith (λ t. vector_of a kind.patterns t ≡ row) terms

-- the positions of the rows that are reached at an index told among the even ones, if so, ascending
pub record AreReached (a : FiniteAlgebra) (kind : ChainKind) (even : Bool) (rows : List Vector) (positions : List ℕ) : Type 0 where
  pub ascending : (j k : ℕ) → j < k → k < length positions → slice_index positions j < slice_index positions k
  pub exact : (i : ℕ) (v : Vector) → slice_get rows i ≡ Some v → Contains positions i ↔ IsReached a kind even v
  pub within : AllByRecursion (λ i. i < length rows) positions
