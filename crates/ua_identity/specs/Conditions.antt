-- Conditions on terms: identities that one term is to satisfy together.
use Rattle.std.specs.Prelude.{◌≡◌, ℕ, ◌<◌, ◌≤◌, List, [], ◌∷◌, length, map, replicate, slice_set}
use Rattle.std.specs.List.{AllByRecursion, range_with_len}
use Rattle.ua_table.specs.Algebras.{FiniteAlgebra, arities_of}
use Rattle.ua_table.specs.Terms.{Tree, IsTerm}
use Rattle.ua_identity.specs.declared.limits.TheConstants.{PLACES, LETTERS}
use Rattle.ua_identity.specs.Identities.{VariablePattern, TermIdentity, over_two, xxy, xyx, xyy, yxx, SatisfiesAll}

-- a condition on a term of so many places: the identities that it is to satisfy
pub record TermCondition : Type 0 where
  pub arity : ℕ
  pub identities : List TermIdentity

-- the term satisfies each identity, at every assignment
abbrev pub Meets : FiniteAlgebra → Tree → TermCondition → Type 0
Meets a t c = SatisfiesAll a t c.identities

-- a term of as many places as the condition has, which meets it
abbrev pub IsMetBy : FiniteAlgebra → TermCondition → Tree → Type 0
IsMetBy a c t = IsTerm (arities_of a) c.arity t × Meets a t c

-- some term meets the condition
pub record IsMet (a : FiniteAlgebra) (c : TermCondition) : Type 0 where
  pub term : Tree
  pub is_term : IsTerm (arities_of a) c.arity term
  pub meets : Meets a term c

-- the pattern has no more variables than may be, and each place has one of them
pub record IsPattern (p : VariablePattern) : Type 0 where
  pub few : p.variables ≤ LETTERS
  pub named : AllByRecursion (λ v. v < p.variables) p.places

-- an identity with a pattern, whose value is one of its variables
pub record IsIdentity (i : TermIdentity) : Type 0 where
  pub pattern : IsPattern i.pattern
  pub value : i.value < i.pattern.variables

-- a condition within the limits: a term has places, and there is an identity, each of which fills them all
pub record IsCondition (c : TermCondition) : Type 0 where
  pub some : 1 ≤ c.arity
  pub small : c.arity ≤ PLACES
  pub identity : 1 ≤ length c.identities
  pub identities : AllByRecursion IsIdentity c.identities
  pub filled : AllByRecursion (λ (i : TermIdentity). length i.pattern.places ≡ c.arity) c.identities

-- ---- the conditions with names

-- the identity that a term filled by the pattern is this variable
abbrev is : VariablePattern → ℕ → TermIdentity
is p v = record { pattern = p; value = v }

-- p(x,y,y) = x and p(x,x,y) = y
abbrev pub maltsev : TermCondition
maltsev = record { arity = 3; identities = is xyy 0 ∷ is xxy 1 ∷ [] }

-- m(x,x,y) = x, m(x,y,x) = x and m(y,x,x) = x
abbrev pub majority : TermCondition
majority = record { arity = 3; identities = is xxy 0 ∷ is xyx 0 ∷ is yxx 0 ∷ [] }

-- m(x,x,y) = y, m(x,y,x) = y and m(y,x,x) = y
abbrev pub minority : TermCondition
minority = record { arity = 3; identities = is xxy 1 ∷ is xyx 1 ∷ is yxx 1 ∷ [] }

-- p(x,y,y) = x, p(x,y,x) = x and p(x,x,y) = y
abbrev pub pixley : TermCondition
pixley = record { arity = 3; identities = is xyy 0 ∷ is xyx 0 ∷ is xxy 1 ∷ [] }

-- the term is x where y stands at place i and x at all others
abbrev pub near_unanimous : ℕ → ℕ → TermIdentity
near_unanimous k i = is (over_two (slice_set (replicate k 0) i 1)) 0

-- t(y,x,..,x) = x, t(x,y,..,x) = x, .., t(x,x,..,y) = x
abbrev pub near_unanimity : ℕ → TermCondition
near_unanimity k = record { arity = k; identities = map (near_unanimous k) (range_with_len 0 k) }
