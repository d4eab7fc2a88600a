-- The pairs that a congruence relates, by their numbers in the square of the algebra.
use Rattle.std.specs.Prelude.{ℕ, ◌↔◌, List, replicate}
use Rattle.std.specs.List.{AllByRecursion}
use Rattle.ua_table.specs.Algebras.{Vector, FiniteAlgebra}
use Rattle.ua_part.specs.Partitions.{Partition}
use Rattle.ua_prod.specs.Constructions.{pair_number, place_among}
use Rattle.ua_prod.specs.Congruences.{IsCongruence}
use Rattle.ua_close.specs.Answers.{IsWide}
use Rattle.ua_matrix.specs.Centrality.{Centralizes}
use Rattle.ua_matrix.specs.Matrices.{matrix_generators, AllGo, AreFour}
use Rattle.ua_matrix.specs.Answers.{HasMoreMatrices}

-- the place of the pair of x and y
abbrev pub number_of : ℕ → List ℕ → ℕ → ℕ → ℕ
number_of n pairs x y = place_among pairs (pair_number n x y)

-- no more matrices are generated than the budget, and these decide whether alpha centralizes beta, modulo any congruence
pub record AreDeciding (a : FiniteAlgebra) (alpha beta : Partition) (b : ℕ) (matrices : List Vector) : Type 0 where
  pub narrow : ¬ IsWide (replicate 4 a) (matrix_generators alpha beta) b
  pub few : ¬ HasMoreMatrices a alpha beta b
  pub four : AllByRecursion (AreFour a.size) matrices
  pub decides : (theta : Partition) → IsCongruence a theta → Centralizes a alpha beta theta ↔ AllGo theta matrices
