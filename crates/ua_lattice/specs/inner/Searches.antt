-- How far a search for the congruences of an algebra has come.
use Rattle.std.specs.Prelude.{◌≡◌, ◌+◌, ◌<◌, ◌≤◌, ◌^◌, length}
use Rattle.ua_table.specs.Tables.{IsAlgebraTable}
use Rattle.ua_lattice.specs.declared.joiner.Joiner.{Joiner}
use Rattle.ua_lattice.specs.declared.joins.Found.{Found}
use Rattle.ua_lattice.specs.declared.joins.Search.{Search}
use Rattle.ua_lattice.specs.inner.Joins.{IsSpannedLattice}

-- congruences within the budget, closed under joins, with room for one more and to join rows
pub record HasFound (search : Search) (found : Found) (joiner : Joiner) : Type 0 where
  pub algebra : IsAlgebraTable search.algebra.now
  pub spanned : IsSpannedLattice search.algebra.now found.generators.items found.rows.items
  pub within : length found.rows.items ≤ search.budget
  pub room : search.budget + 1 < 2 ^ 32
  pub width : found.rows.width ≡ search.algebra.now.size
  pub row : length joiner.row.items ≡ search.algebra.now.size
