-- What the least listing is made from.
use Rattle.std.specs.Prelude.{ℕ, ◌≤◌, List, length}
use Rattle.ua_table.specs.declared.limits.TheConstants.{BUDGET}
use Rattle.ua_table.specs.Algebras.{Vector, Product, arities}
use Rattle.ua_table.specs.Listings.{Row, IsClosedListing}
use Rattle.ua_table.specs.Numbering.{Fits}

-- a closed listing of a budget whose records fit in their numbering
pub record IsClosedWithin (p : Product) (gens : List Vector) (rows : List Row) : Type 0 where
  pub budget : ℕ
  pub low : budget ≤ BUDGET
  pub fits : Fits (arities p) (length gens) budget
  pub closed : IsClosedListing p gens budget rows
