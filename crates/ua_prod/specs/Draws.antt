-- The generator, and the algebra that is drawn from it.
use Rattle.std.specs.Prelude.{ℕ, zero, suc, ◌+◌, ◌*◌, ◌/◌, ◌%◌, ◌^◌, List, ◌∷◌, map, take}
use Rattle.std.specs.List.{enumerate_from, range_with_len}
use Rattle.std.specs.Fmt.{decimal}
use Rattle.ua_table.specs.Algebras.{FiniteAlgebra, Operation}
use Rattle.ua_prod.specs.Sizes.{values_needed}

-- the state that follows a state
abbrev pub next_state : ℕ → ℕ
next_state s = (1103515245 * s + 12345) % 2 ^ 31

-- the state after so many draws
abbrev pub state_after : ℕ → ℕ → ℕ
state_after s zero = s
state_after s (suc n) = next_state (state_after s n)

-- the number below a bound that is drawn at a state
abbrev pub drawn : ℕ → ℕ → ℕ
drawn bound s = next_state s / 2 ^ 16 % bound

-- the next so many numbers below a bound
abbrev pub draws : ℕ → ℕ → ℕ → List ℕ
draws bound s count = map (λ i. drawn bound (state_after s i)) (range_with_len 0 count)

-- an operation with the next values, named `f` and a number
abbrev pub drawn_operation : ℕ → ℕ → ℕ → ℕ → Operation
drawn_operation size s f arity = record { name = 102 ∷ decimal f; size = size; arity = arity; values = draws size s (size ^ arity) }

-- operations of these arities, drawn one after another
abbrev pub drawn_operations : ℕ → ℕ → List ℕ → List Operation
drawn_operations size s arities = map (λ (e : ℕ × ℕ). drawn_operation size (state_after s (values_needed size (take e.0 arities))) e.0 e.1) (enumerate_from 0 arities)

-- an algebra with these
abbrev pub drawn_algebra : List ℕ → ℕ → ℕ → List ℕ → FiniteAlgebra
drawn_algebra name size s arities = record { name = name; size = size; operations = drawn_operations size s arities }
