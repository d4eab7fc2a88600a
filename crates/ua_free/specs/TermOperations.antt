-- The operations that terms have.
use Rattle.std.specs.Prelude.{◌≡◌, ℕ}
use Rattle.ua_table.specs.Algebras.{Vector, FiniteAlgebra, arities_of}
use Rattle.ua_table.specs.Terms.{Tree, IsTerm}
use Rattle.ua_term.specs.Assignments.{term_operation}

-- the vector has the values of a term in so many variables at all assignments
pub record IsTermOperation (a : FiniteAlgebra) (k : ℕ) (v : Vector) : Type 0 where
  pub term : Tree
  pub is_term : IsTerm (arities_of a) k term
  pub values : v ≡ term_operation a k term
