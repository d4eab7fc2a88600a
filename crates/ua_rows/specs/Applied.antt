-- Vectors of a unary operation at the rows that arguments name.
use Rattle.std.specs.Prelude.{◌≡◌, ℕ, ◌<◌, Bool, false, List, [], ◌∷◌, slice_index, slice_index_or, Contains, IsTrue}
use Rattle.ua_table.specs.Algebras.{Vector, Product, apply}
use Rattle.ua_rows.specs.RowLists.{rows_at}

-- vectors of one width, and of each whether it was found
pub record SoughtValues : Type 0 where
  pub width : ℕ
  pub values : List Vector
  pub found : List Bool

-- the vector of a unary operation at the row that argument i names
abbrev pub applied_at : Product → ℕ → List Vector → List ℕ → ℕ → Vector
applied_at p f rows args i = apply p f (rows_at rows (slice_index args i ∷ []))

-- the first n vectors are those at the first n arguments
abbrev pub AreApplied : Product → ℕ → List Vector → List ℕ → ℕ → List Vector → Type 0
AreApplied p f rows args n vectors = (i : ℕ) → i < n → slice_index_or vectors i [] ≡ applied_at p f rows args i

-- where it is true, the vector at that argument, one of the first n, stands among the rows
abbrev pub AreFound : Product → ℕ → List Vector → List ℕ → ℕ → List Bool → Type 0
AreFound p f rows args n found = (i : ℕ) → IsTrue (slice_index_or found i false) → (i < n) × Contains rows (applied_at p f rows args i)
