-- A basis of rows that stand, step by step.
use Rattle.std.specs.Prelude.{◌≡◌, ℕ, List, length, Contains}
use Rattle.std.specs.List.{AllByRecursion}
use Rattle.ua_table.specs.Algebras.{Vector, Product, IsVector}
use Rattle.ua_rows.specs.RowLists.{RowList}
use Rattle.ua_bases.specs.declared.steps.Progress.{Progress}
use Rattle.ua_bases.specs.declared.steps.Progress.TheVariants.{Complete, Absent, Unfinished, GivenUp}
use Rattle.ua_bases.specs.declared.bases.Pair.{Pair}
use Rattle.ua_bases.specs.Associative.{result_of}
use Rattle.ua_bases.specs.Bases.{row_at, BasisView, IsComplete, Asks}

-- the rows are vectors of the product
pub record AreRowsIn (p : Product) (rows : RowList) : Type 0 where
  pub vectors : AllByRecursion (IsVector p) rows.items
  pub width : rows.width ≡ length p

-- the result at this pair, which the basis asks for, is the vector v, which is no row
pub record IsAbsent (p : Product) (f : ℕ) (rows : List Vector) (b : BasisView) (v : Vector) (pair : Pair) : Type 0 where
  pub asked : Asks b pair
  pub result : v ≡ result_of p f (row_at rows pair.row) (row_at rows pair.base)
  pub new : ¬ Contains rows v

-- how far a basis has come
abbrev pub HasAdvanced : Product → ℕ → List Vector → BasisView → Vector → Progress → Type 0
HasAdvanced p f rows b v Complete = IsComplete (length rows) b
HasAdvanced p f rows b v (Absent pair) = IsAbsent p f rows b v pair
HasAdvanced p f rows b v Unfinished = Unit {0}
HasAdvanced p f rows b v GivenUp = Unit {0}
