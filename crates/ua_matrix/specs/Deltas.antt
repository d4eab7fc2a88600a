-- The algebra of the pairs that a congruence relates, and the congruence Delta on it.
use Rattle.std.specs.Prelude.{◌≡◌, ◌↔◌, ℕ, ◌<◌, List, [], ◌∷◌, length, map, slice_index}
use Rattle.std.specs.List.{AllByRecursion, range_with_len}
use Rattle.ua_table.specs.Algebras.{Vector, FiniteAlgebra, IsAlgebra, arities_of, value_at}
use Rattle.ua_part.specs.Partitions.{Partition, SameBlock, LiesBelow}
use Rattle.ua_part.specs.Pairs.{related_pairs}
use Rattle.ua_matrix.specs.Centrality.{Centralizes}
use Rattle.ua_matrix.specs.Matrices.{IsMatrix}
use Rattle.ua_matrix.specs.Answers.{HasMoreMatrices}
use Rattle.ua_prod.specs.Congruences.{IsCongruence, IsCg}

-- the elements of b stand for the pairs that beta relates, and its operations are those of a at both places
pub record IsAlgebraOfPairs (a : FiniteAlgebra) (beta : Partition) (left right : ℕ → ℕ) (number : ℕ → ℕ → ℕ) (b : FiniteAlgebra) : Type 0 where
  pub algebra : IsAlgebra b
  pub arities : arities_of b ≡ arities_of a
  pub related : (e : ℕ) → e < b.size → SameBlock beta (left e) (right e)
  pub numbered : (x y : ℕ) → SameBlock beta x y → (number x y < b.size) × (left (number x y) ≡ x) × (right (number x y) ≡ y)
  pub one : (e : ℕ) → e < b.size → number (left e) (right e) ≡ e
  pub lefts : (f : ℕ) (es : List ℕ) → f < length (arities_of a) → length es ≡ slice_index (arities_of a) f → AllByRecursion (λ e. e < b.size) es → left (value_at b f es) ≡ value_at a f (map left es)
  pub rights : (f : ℕ) (es : List ℕ) → f < length (arities_of a) → length es ≡ slice_index (arities_of a) f → AllByRecursion (λ e. e < b.size) es → right (value_at b f es) ≡ value_at a f (map right es)

-- (u,u) with (v,v), v the least member of u's block in alpha, for each u in order
abbrev pub diagonal_pairs : (ℕ → ℕ → ℕ) → Partition → List (ℕ × ℕ)
diagonal_pairs number alpha = map (λ u. (number u u, number (slice_index alpha u) (slice_index alpha u))) (range_with_len 0 (length alpha))

-- the congruence Delta of alpha and beta: that of the algebra of beta's pairs which the pairs of (u,u) and (v,v), u and v related by alpha, generate
pub record IsDelta (a : FiniteAlgebra) (alpha beta : Partition) (left right : ℕ → ℕ) (number : ℕ → ℕ → ℕ) (b : FiniteAlgebra) (delta : Partition) : Type 0 where
  pub pairs : IsAlgebraOfPairs a beta left right number b
  pub generated : IsCg b (diagonal_pairs number alpha) delta

-- so it is in an algebra where alpha and beta are congruences
pub record IsDeltaIn (a : FiniteAlgebra) (alpha beta : Partition) (left right : ℕ → ℕ) (number : ℕ → ℕ → ℕ) (b : FiniteAlgebra) (delta : Partition) : Type 0 where
  pub algebra : IsAlgebra a
  pub alpha_is : IsCongruence a alpha
  pub beta_is : IsCongruence a beta
  pub delta_is : IsDelta a alpha beta left right number b delta

-- the matrix with these two pairs as its rows
abbrev pub matrix_of_rows : (ℕ → ℕ) → (ℕ → ℕ) → ℕ → ℕ → Vector
matrix_of_rows left right d e = left d ∷ right d ∷ left e ∷ right e ∷ []

-- the rows of the matrix are pairs that stand in one block of Delta
pub record HasRelatedRows (left right : ℕ → ℕ) (delta : Partition) (m : Vector) : Type 0 where
  pub upper : ℕ
  pub lower : ℕ
  pub related : SameBlock delta upper lower
  pub rows : m ≡ matrix_of_rows left right upper lower

-- a partition of the pairs that relates the two rows of each matrix
pub record RelatesRows (a : FiniteAlgebra) (alpha beta : Partition) (left right : ℕ → ℕ) (b : FiniteAlgebra) (q : Partition) : Type 0 where
  pub size : length q ≡ b.size
  pub rows : (d e : ℕ) → d < b.size → e < b.size → IsMatrix a alpha beta (matrix_of_rows left right d e) → SameBlock q d e

-- no block of Delta has a pair that theta relates and one that it does not
abbrev pub AreUniform : (ℕ → ℕ) → (ℕ → ℕ) → Partition → Partition → Type 0
AreUniform left right delta theta = (d e : ℕ) → SameBlock delta d e → SameBlock theta (left d) (right d) → SameBlock theta (left e) (right e)

-- ---- what each Delta of two congruences does

-- the two rows of each matrix stand in one block of it
abbrev pub DeltasHoldMatrices : FiniteAlgebra → Partition → Partition → Type 0
DeltasHoldMatrices a alpha beta = (left right : ℕ → ℕ) (number : ℕ → ℕ → ℕ) (b : FiniteAlgebra) (delta : Partition) → IsDeltaIn a alpha beta left right number b delta
    → (m : Vector) → IsMatrix a alpha beta m → HasRelatedRows left right delta m

-- it lies below each partition of the pairs that relates the two rows of each matrix
abbrev pub DeltasAreLeast : FiniteAlgebra → Partition → Partition → Type 0
DeltasAreLeast a alpha beta = (left right : ℕ → ℕ) (number : ℕ → ℕ → ℕ) (b : FiniteAlgebra) (delta q : Partition) → IsDeltaIn a alpha beta left right number b delta
    → RelatesRows a alpha beta left right b q → LiesBelow delta q

-- alpha centralizes beta modulo a congruence exactly where no block of it has a pair of that and one outside
abbrev pub DeltasDecide : FiniteAlgebra → Partition → Partition → Type 0
DeltasDecide a alpha beta = (left right : ℕ → ℕ) (number : ℕ → ℕ → ℕ) (b : FiniteAlgebra) (delta theta : Partition) → IsDeltaIn a alpha beta left right number b delta
    → IsCongruence a theta → Centralizes a alpha beta theta ↔ AreUniform left right delta theta

-- there are no more matrices than pairs that it relates
abbrev pub DeltasBoundMatrices : FiniteAlgebra → Partition → Partition → Type 0
DeltasBoundMatrices a alpha beta = (left right : ℕ → ℕ) (number : ℕ → ℕ → ℕ) (b : FiniteAlgebra) (delta : Partition) (n : ℕ) → IsDeltaIn a alpha beta left right number b delta
    → HasMoreMatrices a alpha beta n → n < length (related_pairs delta)
