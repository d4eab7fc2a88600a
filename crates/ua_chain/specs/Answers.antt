-- What is told when a least chain is asked for.
use Rattle.std.specs.Prelude.{◌≡◌, ℕ, ◌-◌, ◌<◌, true, false, List, [], ◌∷◌, length, map}
use Rattle.std.specs.List.{AllByRecursion}
use Rattle.ua_table.specs.declared.origins.Origin.TheVariants.{Gen}
use Rattle.ua_table.specs.Algebras.{FiniteAlgebra, arities_of}
use Rattle.ua_table.specs.Generated.{HasMoreThan}
use Rattle.ua_table.specs.Terms.{Tree}
use Rattle.ua_table.specs.Listings.{Row, vectors_of, IsClosedListing, IsExceedingListing}
use Rattle.ua_table.specs.Orders.{IsSerialListing}
use Rattle.ua_term.specs.Steps.{StepList, AreSteps, written_term}
use Rattle.ua_close.specs.Needed.{AreStepsFor}
use Rattle.ua_table.specs.Sequences.{BeginsWith, EndsWith}
use Rattle.ua_identity.specs.Chains.{ChainKind, IsChain, IsLeastChain, power_of, generators_of, AreReached}
use Rattle.ua_chain.specs.declared.chains.Chain.{Chain}
use Rattle.ua_chain.specs.declared.chains.Chain.TheVariants.{Yes, No, Exceeds}

-- ---- a chain

-- the term that steps write
abbrev pub term_of : StepList → Tree
term_of s = written_term s.arities s.items

-- steps over the operations of the algebra and the places of the kind
pub record AreTermSteps (a : FiniteAlgebra) (kind : ChainKind) (s : StepList) : Type 0 where
  pub arities_are : s.arities ≡ arities_of a
  pub places_are : s.gens ≡ kind.places
  pub steps : AreSteps s.arities s.gens s.items
  pub some : 0 < length s.items

-- the one step that is a generator
abbrev pub IsGeneratorStep : ℕ → StepList → Type 0
IsGeneratorStep j s = s.items ≡ Gen j ∷ []

-- a least chain, each term of it in steps; the first is generator 0, and the last of more than one the generator of the end
pub record AreChainSteps (a : FiniteAlgebra) (kind : ChainKind) (steps : List StepList) : Type 0 where
  pub each : AllByRecursion (AreTermSteps a kind) steps
  pub least : IsLeastChain a kind (map term_of steps)
  pub first : BeginsWith (IsGeneratorStep 0) steps
  pub last : 1 < length steps → EndsWith (IsGeneratorStep kind.end) steps

-- ---- no chain

-- there is no chain, the list is closed, and the rows that beginnings reach are told
pub record TellsNoChain (a : FiniteAlgebra) (kind : ChainKind) (b : ℕ) (list : List Row) (even odd : List ℕ) : Type 0 where
  pub none : (terms : List Tree) → ¬ IsChain a kind terms
  pub closed : IsClosedListing (power_of a kind) (generators_of a kind) b list
  pub evens : AreReached a kind true (vectors_of list) even
  pub odds : AreReached a kind false (vectors_of list) odd

-- ---- the answer

-- the terms have more vectors than the budget
abbrev pub HasMoreVectors : FiniteAlgebra → ChainKind → ℕ → Type 0
HasMoreVectors a kind b = HasMoreThan (power_of a kind) (generators_of a kind) b

-- a least chain, or the closed listing where there is none; or one more row than the budget, where there are more
abbrev pub TellsChain : FiniteAlgebra → ChainKind → ℕ → Chain → Type 0
TellsChain a kind b (Yes steps) = AreChainSteps a kind steps.items × ¬ HasMoreVectors a kind b
TellsChain a kind b (No list even odd) = TellsNoChain a kind b list even.items odd.items
TellsChain a kind b (Exceeds list) = IsExceedingListing (power_of a kind) (generators_of a kind) b list

-- ---- the answer of one worker

-- the steps are those of a row
pub record AreStepsOfRow (ks : List ℕ) (rows : List Row) (s : StepList) : Type 0 where
  pub place : ℕ
  pub steps : AreStepsFor ks rows place s.items

-- each term has the steps of a row of a closed listing of one worker
pub record AreSerialTerms (a : FiniteAlgebra) (kind : ChainKind) (b : ℕ) (steps : List StepList) : Type 0 where
  pub rows : List Row
  pub closed : IsClosedListing (power_of a kind) (generators_of a kind) b rows
  pub serial : IsSerialListing (power_of a kind) (generators_of a kind) rows
  pub terms : AllByRecursion (AreStepsOfRow (arities_of a) rows) steps

-- the answer of one worker: its terms or its rows are serial
abbrev pub IsSerialChain : FiniteAlgebra → ChainKind → ℕ → Chain → Type 0
IsSerialChain a kind b (Yes steps) = AreSerialTerms a kind b steps.items
IsSerialChain a kind b (No list even odd) = IsSerialListing (power_of a kind) (generators_of a kind) list
IsSerialChain a kind b (Exceeds list) = IsSerialListing (power_of a kind) (generators_of a kind) list
