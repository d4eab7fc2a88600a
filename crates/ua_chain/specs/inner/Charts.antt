-- A list of the vectors of all terms, with what links its rows.
use Rattle.std.specs.Prelude.{◌≡◌, ◌↔◌, ℕ, Bool, List, length, slice_get, Some, Contains}
use Rattle.ua_table.specs.Algebras.{Vector, FiniteAlgebra, arities_of}
use Rattle.ua_table.specs.Terms.{Tree, IsTerm}
use Rattle.ua_table.specs.Generated.{Sg}
use Rattle.ua_climb.specs.Ladders.{LinkLists, Joins, IsAllowed}
use Rattle.ua_identity.specs.Chains.{ChainKind, AreLinked, IsOwn, power_of, generators_of}
use Rattle.ua_identity.specs.Patterns.{vector_of}

-- row i is the vector of the term
pub record IsRowOf (a : FiniteAlgebra) (kind : ChainKind) (vectors : List Vector) (t : Tree) (i : ℕ) : Type 0 where
  pub is_term : IsTerm (arities_of a) kind.places t
  pub stands : slice_get vectors i ≡ Some (vector_of a kind.patterns t)

-- the rows are the members, each once; the allowed ones are those whose terms satisfy what each term of a chain does; and two are joined where their terms are linked
pub record IsChart (a : FiniteAlgebra) (kind : ChainKind) (vectors : List Vector) (allowed : List Bool) (even odd : LinkLists) : Type 0 where
  pub exact : (v : Vector) → Contains vectors v ↔ Sg (power_of a kind) (generators_of a kind) v
  pub once : (i j : ℕ) (v : Vector) → slice_get vectors i ≡ Some v → slice_get vectors j ≡ Some v → i ≡ j
  pub count : length allowed ≡ length vectors
  pub own : (t : Tree) (i : ℕ) → IsRowOf a kind vectors t i → IsAllowed allowed i ↔ IsOwn a kind t
  pub even_links : (d e : Tree) (i j : ℕ) → IsRowOf a kind vectors d i → IsRowOf a kind vectors e j → Joins even i j ↔ AreLinked a kind.even d e
  pub odd_links : (d e : Tree) (i j : ℕ) → IsRowOf a kind vectors d i → IsRowOf a kind vectors e j → Joins odd i j ↔ AreLinked a kind.odd d e
