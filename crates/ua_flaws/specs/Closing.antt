-- Rows that hold the generators and are closed under the operations.
use Rattle.std.specs.Prelude.{ℕ, Bool, not, List, length, map, slice_index, find, Option}
use Rattle.std.specs.Option.{option_map}
use Rattle.std.specs.List.{range_with_len}
use Rattle.ua_table.specs.Algebras.{Vector, Product, arities, apply}
use Rattle.ua_table.specs.Refusals.{first_refusal}
use Rattle.ua_term.specs.Assignments.{assignments}
use Rattle.ua_rows.specs.RowLists.{rows_at}
use Rattle.ua_flaws.specs.Firsts.{is_among}

-- the value of operation f at the rows of these positions is no row
abbrev pub is_missing : Product → List Vector → ℕ → List ℕ → Bool
is_missing p rows f tuple = not (is_among rows (apply p f (rows_at rows tuple)))

-- an operation, and positions of rows
abbrev pub Result : Type 0
Result = ℕ × List ℕ

-- the first value of operation f that is no row
abbrev pub missing_of : Product → List Vector → ℕ → Option Result
missing_of p rows f = option_map (λ tuple. (f, tuple)) (find (is_missing p rows f) (assignments (length rows) (slice_index (arities p) f)))

-- the first value that is no row, by operation and then by positions
abbrev pub missing : Product → List Vector → Option Result
missing p rows = first_refusal (map (missing_of p rows) (range_with_len 0 (length (arities p))))
