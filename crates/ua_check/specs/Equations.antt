-- Terms that steps write, with variables at their places, and equations between two of them.
use Rattle.std.specs.Prelude.{ℕ, ◌==◌, not, Bool, List, map, slice_index}
use Rattle.ua_table.specs.Algebras.{FiniteAlgebra, arities_of}
use Rattle.ua_table.specs.Terms.{eval}
use Rattle.ua_term.specs.Steps.{written_term}
use Rattle.ua_check.specs.declared.equations.Side.{Side}

-- the value of a side of an equation at an assignment
abbrev pub side_value : FiniteAlgebra → Side → List ℕ → ℕ
side_value a s xs = eval a (map (slice_index xs) s.places.now) (written_term (arities_of a) s.steps.now)

-- the two sides differ at this assignment
abbrev pub differ : FiniteAlgebra → Side → Side → List ℕ → Bool
differ a s t xs = not (side_value a s xs == side_value a t xs)
