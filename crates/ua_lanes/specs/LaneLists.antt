-- What contracts see of vectors in lanes.
use Rattle.std.specs.Prelude.{ℕ, List}
use Rattle.ua_table.specs.Algebras.{Vector, Product}

-- the product, its vectors in order, and for how many more there is room at least
pub record LaneList : Type 0 where
  pub product : Product
  pub items : List Vector
  pub spare : ℕ
