-- The power in which a polynomial is looked for, and the vectors that stand there for variables, elements and values.
use Rattle.std.specs.Prelude.{◌≡◌, ℕ, List, ◌++◌, length, map, replicate, slice_index}
use Rattle.std.specs.List.{range_with_len}
use Rattle.ua_table.specs.Algebras.{Vector, FiniteAlgebra, Product}
use Rattle.ua_table.specs.Generated.{Sg, IsTermFor}
use Rattle.ua_table.specs.Terms.{Tree, term_value}
use Rattle.ua_clone.specs.declared.kinds.CloneKind.{CloneKind}
use Rattle.ua_clone.specs.Points.{Point}
use Rattle.ua_clone.specs.Polynomials.{named_elements, polynomial_value}

-- the power with a coordinate for each point, in order
abbrev pub point_power : FiniteAlgebra → List Point → Product
point_power a ps = replicate (length ps) a

-- what the points give to variable i
abbrev pub variable_vector : List Point → ℕ → Vector
variable_vector ps i = map (λ (p : Point). slice_index p.arguments i) ps

-- the element c at each point
abbrev pub element_vector : List Point → ℕ → Vector
element_vector ps c = replicate (length ps) c

-- the vectors of the k variables, and behind them those of the elements that may stand in a polynomial of the kind
abbrev pub point_generators : FiniteAlgebra → ℕ → CloneKind → List Point → List Vector
point_generators a k kind ps = map (variable_vector ps) (range_with_len 0 k) ++ map (element_vector ps) (range_with_len 0 (named_elements kind a.size))

-- the values that are wanted
abbrev pub wanted_values : List Point → Vector
wanted_values ps = map (λ (p : Point). p.value) ps

-- the value of the term in the power is the vector of the polynomial's values at the points
abbrev pub HasValuesAt : FiniteAlgebra → ℕ → CloneKind → List Point → Tree → Type 0
HasValuesAt a k kind ps t = term_value (point_power a ps) (point_generators a k kind ps) t ≡ map (λ (p : Point). polynomial_value a p.arguments t) ps

-- the wanted values are the value of the term in the power
abbrev pub GivesWanted : FiniteAlgebra → ℕ → CloneKind → List Point → Tree → Type 0
GivesWanted a k kind ps t = IsTermFor (point_power a ps) (point_generators a k kind ps) (wanted_values ps) t

-- the vectors of variables and elements generate that of the wanted values
abbrev pub GenerateWanted : FiniteAlgebra → ℕ → CloneKind → List Point → Type 0
GenerateWanted a k kind ps = Sg (point_power a ps) (point_generators a k kind ps) (wanted_values ps)
