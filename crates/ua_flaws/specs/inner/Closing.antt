-- Rows with the operations of their power.
use Rattle.std.specs.Prelude.{◌≡◌, ℕ, ◌<◌, List, length, Option}
use Rattle.ua_table.specs.Algebras.{Vector, FiniteAlgebra, Product, AreVectorsOf, power}
use Rattle.ua_rows.specs.RowLists.{RowList}
use Rattle.ua_flaws.specs.Closing.{is_missing}
use Rattle.ua_flaws.specs.inner.Firsts.{first_behind}

-- rows of a power of the algebra, with the operations of that power
pub record IsTableOver (a : FiniteAlgebra) (operations : Product) (rows : RowList) : Type 0 where
  pub product : operations ≡ power a rows.width
  pub some : 0 < rows.width
  pub vectors : AreVectorsOf operations rows.items

-- the first positions, of those that begin with these and go on with k more, at which the value of operation f is no row
abbrev pub missing_behind : Product → List Vector → ℕ → List ℕ → ℕ → Option (List ℕ)
missing_behind p rows f begin k = first_behind (is_missing p rows f) (length rows) begin k
