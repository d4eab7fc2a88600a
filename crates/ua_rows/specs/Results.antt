-- The results of the tuples of a slice.
use Rattle.std.specs.Prelude.{ℕ, List, take, Contains}
use Rattle.std.specs.List.{AllByRecursion}
use Rattle.ua_table.specs.Algebras.{Vector, Product, arities, apply}
use Rattle.ua_table.specs.Slices.{slice_operation, slice_tuples}
use Rattle.ua_rows.specs.RowLists.{rows_at}

-- the result of each tuple of the slice is among the first rows seen
abbrev pub HasResults : Product → List Vector → ℕ → ℕ → Type 0
HasResults p rows seen s = AllByRecursion (λ tuple. Contains (take seen rows) (apply p (slice_operation (arities p) s) (rows_at rows tuple))) (slice_tuples (arities p) s)
