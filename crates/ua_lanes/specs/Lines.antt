-- The lines of an operation: its values at one coordinate, where one argument is free.
use Rattle.std.specs.Prelude.{ℕ, ◌≤◌, nat_lt, if◌then◌else◌, List, [], map, slice_index, slice_index_or, slice_set}
use Rattle.std.specs.List.{AllByRecursion}
use Rattle.ua_table.specs.Algebras.{Vector, FiniteAlgebra, Product, value_at, column}

-- all algebras have at most so many elements
abbrev pub AreSizesAtMost : ℕ → Product → Type 0
AreSizesAtMost n p = AllByRecursion (λ (a : FiniteAlgebra). a.size ≤ n) p

-- how many elements the algebra of coordinate x has, and none past the last
abbrev pub size_at : Product → ℕ → ℕ
size_at p x = slice_index (map (λ (a : FiniteAlgebra). a.size) p) x

-- the algebra of coordinate x, and one with no element past the last
abbrev pub algebra_at : Product → ℕ → FiniteAlgebra
algebra_at p x = slice_index_or p x record { name = []; size = 0; operations = [] }

-- the value of operation f at coordinate x where the argument at the free place is y, and the others are the entries of these vectors; 0 where y is no element
abbrev pub line_value : Product → ℕ → List Vector → ℕ → ℕ → ℕ → ℕ
line_value p f vs free x y = if nat_lt y (size_at p x) then value_at (algebra_at p x) f (slice_set (column vs x) free y) else 0
