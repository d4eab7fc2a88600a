-- Pairs that are known to generate one pair.
use Rattle.std.specs.Prelude.{◌≡◌, ℕ, ◌<◌, Bool, true, false, List, length, slice_index, slice_index_or, Contains}
use Rattle.ua_table.specs.Algebras.{Vector, FiniteAlgebra}
use Rattle.ua_table.specs.Listings.{Row, vectors_of}
use Rattle.ua_prod.specs.Constructions.{pair_number, first_of, second_of}
use Rattle.ua_type.specs.declared.marks.Marks.{Marks}
use Rattle.ua_type.specs.Subtraces.{Generates}

-- whether a pair of elements is marked
abbrev pub is_marked : Marks → ℕ × ℕ → Bool
is_marked marks pair = slice_index_or marks.marked.items (pair_number marks.size pair.0 pair.1) false

-- each pair that is marked, by its number in the square of b, generates the target
pub record AreMarks (b : FiniteAlgebra) (target : ℕ × ℕ) (marks : Marks) : Type 0 where
  pub size : marks.size ≡ b.size
  pub generate : (k : ℕ) → slice_index_or marks.marked.items k false ≡ true → Generates b (first_of b.size k) (second_of b.size k) target.0 target.1

-- at some place the entries of two rows are a marked pair
pub record HasMarkedPlace (marks : Marks) (firsts seconds : List ℕ) : Type 0 where
  pub place : ℕ
  pub within : place < length firsts
  pub marked : is_marked marks (slice_index firsts place, slice_index seconds place) ≡ true

-- the pair generates a marked one
pub record ReachesMark (b : FiniteAlgebra) (marks : Marks) (pair : ℕ × ℕ) : Type 0 where
  pub first : ℕ
  pub second : ℕ
  pub below : second < b.size
  pub generated : Generates b pair.0 pair.1 first second
  pub marked : is_marked marks (first, second) ≡ true

-- the rows are pairs of elements
abbrev pub ArePairRows : FiniteAlgebra → List Row → Type 0
ArePairRows b rows = (v : Vector) → Contains (vectors_of rows) v → (length v ≡ 2) × (slice_index v 0 < b.size) × (slice_index v 1 < b.size)
