-- The vectors of terms on patterns, and of the variables of identities.
use Rattle.std.specs.Prelude.{◌≡◌, ℕ, List, length, map, take, drop, slice_index}
use Rattle.std.specs.List.{AllByRecursion, flat_map, range_with_len}
use Rattle.ua_table.specs.Algebras.{Vector, FiniteAlgebra, Product, power}
use Rattle.ua_table.specs.Terms.{Tree, term_value, eval}
use Rattle.ua_term.specs.Assignments.{assignments, projection}
use Rattle.ua_identity.specs.Identities.{VariablePattern, TermIdentity, filled}
use Rattle.ua_identity.specs.Conditions.{TermCondition}

-- what stands at the places under each assignment
abbrev pub fillings : ℕ → VariablePattern → List (List ℕ)
fillings n p = map (filled p) (assignments n p.variables)

-- under each pattern and each assignment, pattern first
abbrev pub all_fillings : ℕ → List VariablePattern → List (List ℕ)
all_fillings n ps = flat_map (fillings n) ps

-- the values of a term on the patterns
abbrev pub vector_of : FiniteAlgebra → List VariablePattern → Tree → Vector
vector_of a ps t = map (λ xs. eval a xs t) (all_fillings a.size ps)

-- what stands at place j
abbrev pub place_vector : List (List ℕ) → ℕ → Vector
place_vector fs j = map (λ (xs : List ℕ). slice_index xs j) fs

-- the power in which the vectors lie
abbrev pub pattern_power : FiniteAlgebra → List VariablePattern → Product
pattern_power a ps = power a (length (all_fillings a.size ps))

-- and the places as its generators
abbrev pub generators : FiniteAlgebra → List VariablePattern → ℕ → List Vector
generators a ps places = map (place_vector (all_fillings a.size ps)) (range_with_len 0 places)

-- each pattern fills so many places
abbrev pub FillPlaces : ℕ → List VariablePattern → Type 0
FillPlaces places ps = AllByRecursion (λ (p : VariablePattern). length p.places ≡ places) ps

-- the value of the term in the power is the vector of its values on the patterns
abbrev pub HasValuesOn : FiniteAlgebra → List VariablePattern → ℕ → Tree → Type 0
HasValuesOn a ps places t = term_value (pattern_power a ps) (generators a ps places) t ≡ vector_of a ps t

-- the coordinates of pattern m begin behind those of the patterns before it
abbrev pub start_of : ℕ → List VariablePattern → ℕ → ℕ
start_of n ps m = length (all_fillings n (take m ps))

-- the entries of a vector at the coordinates of pattern m, of which there are as many as fillings
abbrev pub part_of : ℕ → List VariablePattern → ℕ → VariablePattern → Vector → Vector
part_of n ps m p v = take (length (fillings n p)) (drop (start_of n ps m) v)

-- ---- those of a condition

-- the patterns of the identities, in order
abbrev pub patterns_of : TermCondition → List VariablePattern
patterns_of c = map (λ (i : TermIdentity). i.pattern) c.identities

-- the power with a coordinate for each identity and each assignment of its variables, identity first
abbrev pub condition_power : FiniteAlgebra → TermCondition → Product
condition_power a c = pattern_power a (patterns_of c)

-- for each place, what stands there
abbrev pub argument_vectors : FiniteAlgebra → TermCondition → List Vector
argument_vectors a c = generators a (patterns_of c) c.arity

-- what each identity says that the value is
abbrev pub value_vector : FiniteAlgebra → TermCondition → Vector
value_vector a c = flat_map (λ (i : TermIdentity). projection a.size i.pattern.variables i.value) c.identities
