-- What is made on the way from a closure of vectors to a chain of terms.
use Rattle.std.specs.Prelude.{◌≡◌, ◌↔◌, ◌⊎◌, ℕ, ◌+◌, ◌<◌, Bool, true, false, List, [], ◌∷◌, length, slice_get, slice_index, slice_index_or, Some, Contains}
use Rattle.ua_table.specs.declared.origins.Origin.TheVariants.{Gen}
use Rattle.ua_table.specs.Algebras.{Vector, FiniteAlgebra, Product, arities}
use Rattle.ua_table.specs.Listings.{Row, vectors_of}
use Rattle.ua_term.specs.Steps.{StepList}
use Rattle.ua_close.specs.Memberships.{AreStepsTo}
use Rattle.ua_close.specs.Needed.{AreStepsFor}
use Rattle.ua_identity.specs.Chains.{ChainKind, power_of, generators_of}
use Rattle.ua_identity.specs.Kinds.{IsKind}
use Rattle.ua_identity.specs.Patterns.{all_fillings}

-- the product and the generators are those of the kind's terms over the algebra
pub record IsClosureOf (a : FiniteAlgebra) (kind : ChainKind) (p : Product) (gens : List Vector) : Type 0 where
  pub is_kind : IsKind kind
  pub wide : 0 < length (all_fillings a.size kind.patterns)
  pub product_is : p ≡ power_of a kind
  pub gens_are : gens ≡ generators_of a kind

-- the steps of a row
pub record AreRowSteps (p : Product) (gens : List Vector) (rows : List Row) (i : ℕ) (s : StepList) : Type 0 where
  pub value : (v : Vector) → slice_get (vectors_of rows) i ≡ Some v → AreStepsTo p gens v s
  pub needed : AreStepsFor (arities p) rows i s.items

-- the one step that is generator j
abbrev pub generator_step : Product → List Vector → ℕ → StepList
generator_step p gens j = record { arities = arities p; gens = length gens; items = Gen j ∷ [] }

-- the steps of the term at index j of a chain along these rows: generator 0 first, the last generator last, and between them those of the row
pub record AreStepsAt (p : Product) (gens : List Vector) (list : List Row) (rows : List ℕ) (end j : ℕ) (s : StepList) : Type 0 where
  pub first : j ≡ 0 → s ≡ generator_step p gens 0
  pub last : 0 < j → j + 1 ≡ length rows → s ≡ generator_step p gens end
  pub inner : 0 < j → j + 1 < length rows → AreRowSteps p gens list (slice_index rows j) s

-- the marked numbers, ascending
pub record AreMarkedNumbers (marks : List Bool) (numbers : List ℕ) : Type 0 where
  pub ascending : (j k : ℕ) → j < k → k < length numbers → slice_index numbers j < slice_index numbers k
  pub exact : (i : ℕ) → Contains numbers i ↔ (slice_index_or marks i false ≡ true)

-- the numbers told among the even ones: those marked at even indices and, where these are not told apart, also those at odd ones
pub record AreEvenNumbers (by_parity : Bool) (at_even at_odd : List Bool) (numbers : List ℕ) : Type 0 where
  pub ascending : (j k : ℕ) → j < k → k < length numbers → slice_index numbers j < slice_index numbers k
  pub exact : (i : ℕ) → Contains numbers i ↔ ((slice_index_or at_even i false ≡ true) ⊎ (by_parity ≡ false) × (slice_index_or at_odd i false ≡ true))

-- those told among the odd ones
pub record AreOddNumbers (by_parity : Bool) (at_odd : List Bool) (numbers : List ℕ) : Type 0 where
  pub ascending : (j k : ℕ) → j < k → k < length numbers → slice_index numbers j < slice_index numbers k
  pub exact : (i : ℕ) → Contains numbers i ↔ ((by_parity ≡ true) × (slice_index_or at_odd i false ≡ true))
