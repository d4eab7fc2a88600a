-- Vectors in lexicographic order, by the ranks that they had.
use Rattle.std.specs.Prelude.{◌≡◌, ℕ, ◌<◌, List, length, slice_index}
use Rattle.ua_table.specs.Algebras.{Vector, IsIncreasing}
use Rattle.ua_table.specs.Counting.{EachOnceBelow}
use Rattle.ua_rows.specs.RowLists.{rows_at}

-- the ranks of all rows, in the order of their vectors
pub record IsRanking (rows : List Vector) (ranks : List ℕ) : Type 0 where
  pub count : length ranks ≡ length rows
  pub once : EachOnceBelow (length rows) ranks
  pub increasing : IsIncreasing (rows_at rows ranks)

-- the list has, at each of these numbers, the position of it
pub record ArePositions (xs positions : List ℕ) : Type 0 where
  pub count : length positions ≡ length xs
  pub each : (i : ℕ) → i < length xs → slice_index positions (slice_index xs i) ≡ i
