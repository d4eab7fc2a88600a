-- The marks of the rows that are needed.
use Rattle.std.specs.Prelude.{◌≡◌, ◌⊎◌, ◌↔◌, ℕ, ◌<◌, ◌≤◌, Bool, List, length, slice_index, Contains}
use Rattle.std.specs.List.{AllByRecursion}
use Rattle.ua_table.specs.Listings.{Row}
use Rattle.ua_listing.specs.inner.Searches.{IsMarked}
use Rattle.ua_close.specs.Needed.{rank_at, arguments_at}

-- the marks of row i and of the rows that it needs, none of which has a greater rank: those of each marked row are marked, and each other marked row is an argument of one
pub record AreMarks (ks : List ℕ) (rows : List Row) (i : ℕ) (marks : List Bool) : Type 0 where
  pub count : length marks ≡ length rows
  pub itself : IsMarked marks i
  pub arguments : (q : ℕ) → IsMarked marks q → AllByRecursion (IsMarked marks) (arguments_at ks rows q)
  pub needed : (q : ℕ) → IsMarked marks q → (q ≡ i) ⊎ ((r : ℕ) × IsMarked marks r × Contains (arguments_at ks rows r) q)
  pub last : (q : ℕ) → IsMarked marks q → rank_at rows q ≤ rank_at rows i

-- these are the marked positions, by ascending rank
pub record AreMarked (rows : List Row) (marks : List Bool) (places : List ℕ) : Type 0 where
  pub marked : (q : ℕ) → Contains places q ↔ IsMarked marks q
  pub ascending : (j k : ℕ) → j < k → k < length places → rank_at rows (slice_index places j) < rank_at rows (slice_index places k)

-- each row has its arguments at smaller ranks
abbrev pub AreEarlier : List ℕ → List Row → Type 0
AreEarlier ks rows = (q : ℕ) → q < length rows → AllByRecursion (λ a. (a < length rows) × (rank_at rows a < rank_at rows q)) (arguments_at ks rows q)
