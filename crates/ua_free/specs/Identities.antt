-- Identities: their variables, whether they hold, and where they fail first.
use Rattle.std.specs.Prelude.{◌≡◌, ℕ, suc, max, List}
use Rattle.std.specs.Cmp.Lexicographic.{slice_cmp}
use Rattle.std.specs.Ordering.{nat_cmp}
use Rattle.std.specs.declared.cmp.Ordering.TheVariants.{Less}
use Rattle.ua_table.specs.Algebras.{FiniteAlgebra}
use Rattle.ua_table.specs.Terms.{Tree, Generator, Application, Trees, none, more, eval}
use Rattle.ua_term.specs.Assignments.{IsAssignment}

-- one more than the greatest variable of a term, or 0
abbrev mutual
  pub variables_of : Tree → ℕ
  variables_of (Generator i) = suc i
  variables_of (Application f ts) = most_variables ts

  pub most_variables : Trees → ℕ
  most_variables none = 0
  most_variables (more t ts) = max (variables_of t) (most_variables ts)

-- how many variables an identity has: one more than the greatest on either side
abbrev pub variables_in : Tree → Tree → ℕ
variables_in s t = max (variables_of s) (variables_of t)

-- both sides have the same value at an assignment
abbrev pub AgreeAt : FiniteAlgebra → Tree → Tree → List ℕ → Type 0
AgreeAt a s t xs = eval a xs s ≡ eval a xs t

-- the identity holds at every assignment to so many variables
abbrev pub Holds : FiniteAlgebra → ℕ → Tree → Tree → Type 0
Holds a k s t = (xs : List ℕ) → IsAssignment a.size k xs → AgreeAt a s t xs

-- it fails at this assignment, and at none that is lexicographically before
pub record FailsFirst (a : FiniteAlgebra) (k : ℕ) (s t : Tree) (xs : List ℕ) : Type 0 where
  pub assignment : IsAssignment a.size k xs
  pub fails : ¬ AgreeAt a s t xs
  pub first : (ys : List ℕ) → IsAssignment a.size k ys → slice_cmp nat_cmp ys xs ≡ Less → AgreeAt a s t ys
