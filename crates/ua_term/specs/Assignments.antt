-- Assignments of elements to variables, in order, and the power of an algebra with a coordinate for each.
use Rattle.std.specs.Prelude.{◌≡◌, ℕ, ◌^◌, ◌<◌, List, length, map, replicate, slice_index}
use Rattle.std.specs.List.{AllByRecursion, range_with_len}
use Rattle.ua_table.specs.Algebras.{Vector, FiniteAlgebra, Product}
use Rattle.ua_table.specs.Numbering.{choices}
use Rattle.ua_table.specs.Terms.{Tree, eval, term_value}

-- an element below n for each of so many variables
pub record IsAssignment (n variables : ℕ) (xs : List ℕ) : Type 0 where
  pub count : length xs ≡ variables
  pub elements : AllByRecursion (λ x. x < n) xs

-- all of them, in lexicographic order: the last variable varies fastest
abbrev pub assignments : ℕ → ℕ → List (List ℕ)
assignments n variables = choices (replicate variables (range_with_len 0 n))

-- what each assignment gives to variable i
abbrev pub projection : ℕ → ℕ → ℕ → Vector
projection n variables i = map (λ (xs : List ℕ). slice_index xs i) (assignments n variables)

-- the projections to variables 0, 1, ..
abbrev pub projections : ℕ → ℕ → List Vector
projections n variables = map (projection n variables) (range_with_len 0 variables)

-- the power with a coordinate for each assignment
abbrev pub power_of_assignments : FiniteAlgebra → ℕ → Product
power_of_assignments a variables = replicate (a.size ^ variables) a

-- the value in this power of a term at the projections
abbrev pub value_at_projections : FiniteAlgebra → ℕ → Tree → Vector
value_at_projections a variables t = term_value (power_of_assignments a variables) (projections a.size variables) t

-- the values of a term at all assignments
abbrev pub term_operation : FiniteAlgebra → ℕ → Tree → Vector
term_operation a variables t = map (λ xs. eval a xs t) (assignments a.size variables)
