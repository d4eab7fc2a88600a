-- What is told of centrality.
use Rattle.std.specs.Prelude.{◌≡◌, ℕ, List, replicate, slice_get, Some}
use Rattle.ua_table.specs.Algebras.{Vector, FiniteAlgebra, arities}
use Rattle.ua_table.specs.Generated.{HasMoreThan}
use Rattle.ua_table.specs.Listings.{Row, vectors_of, ranks_of, IsClosedListing}
use Rattle.ua_table.specs.Orders.{IsSerialListing}
use Rattle.ua_term.specs.Steps.{StepList}
use Rattle.ua_close.specs.Memberships.{AreStepsTo}
use Rattle.ua_close.specs.Needed.{AreStepsFor}
use Rattle.ua_part.specs.Partitions.{Partition}
use Rattle.ua_matrix.specs.declared.centrality.Central.{Central}
use Rattle.ua_matrix.specs.declared.centrality.Central.TheVariants.{Yes, No, Exceeds}
use Rattle.ua_matrix.specs.Centrality.{Centralizes}
use Rattle.ua_matrix.specs.Matrices.{matrix_generators, IsMatrix, Fails, IsFirstFailure}

-- more matrices are generated than the budget
abbrev pub HasMoreMatrices : FiniteAlgebra → Partition → Partition → ℕ → Type 0
HasMoreMatrices a alpha beta b = HasMoreThan (replicate 4 a) (matrix_generators alpha beta) b

-- a generated matrix that fails, and steps of which the last has it as its value
pub record IsRefutation (a : FiniteAlgebra) (alpha beta delta : Partition) (matrix : Vector) (steps : StepList) : Type 0 where
  pub generated : IsMatrix a alpha beta matrix
  pub fails : Fails delta matrix
  pub value : AreStepsTo (replicate 4 a) (matrix_generators alpha beta) matrix steps

-- alpha centralizes beta modulo delta, or it does not and a matrix refutes it, with no more matrices than the budget; or there are more
abbrev pub TellsCentral : FiniteAlgebra → Partition → Partition → Partition → ℕ → Central → Type 0
TellsCentral a alpha beta delta b Yes = Centralizes a alpha beta delta × ¬ HasMoreMatrices a alpha beta b
TellsCentral a alpha beta delta b (No matrix steps) = (¬ Centralizes a alpha beta delta) × IsRefutation a alpha beta delta matrix steps × ¬ HasMoreMatrices a alpha beta b
TellsCentral a alpha beta delta b Exceeds = HasMoreMatrices a alpha beta b

-- of the rows that fail, the matrix is that of the least rank, and the steps are those of its row
pub record IsListedRefutation (ks : List ℕ) (delta : Partition) (rows : List Row) (matrix : Vector) (steps : StepList) : Type 0 where
  pub place : ℕ
  pub stands : slice_get (vectors_of rows) place ≡ Some matrix
  pub first : IsFirstFailure delta (vectors_of rows) (ranks_of rows) place
  pub steps_are : AreStepsFor ks rows place steps.items

-- so in a closed listing of one worker
pub record IsSerialRefutation (a : FiniteAlgebra) (alpha beta delta : Partition) (b : ℕ) (matrix : Vector) (steps : StepList) : Type 0 where
  pub rows : List Row
  pub closed : IsClosedListing (replicate 4 a) (matrix_generators alpha beta) b rows
  pub serial : IsSerialListing (replicate 4 a) (matrix_generators alpha beta) rows
  pub refutation : IsListedRefutation (arities (replicate 4 a)) delta rows matrix steps

-- the answer of one worker
abbrev pub IsSerialCentral : FiniteAlgebra → Partition → Partition → Partition → ℕ → Central → Type 0
IsSerialCentral a alpha beta delta b Yes = Unit {0}
IsSerialCentral a alpha beta delta b (No matrix steps) = IsSerialRefutation a alpha beta delta b matrix steps
IsSerialCentral a alpha beta delta b Exceeds = Unit {0}
