-- Answers that are right, of which certificates are made: listings of powers.
use Rattle.std.specs.Prelude.{ℕ, List, Contains}
use Rattle.ua_table.specs.Frames.{IsWidth}
use Rattle.ua_table.specs.Algebras.{Vector, FiniteAlgebra, AreVectorsOf, power}
use Rattle.ua_table.specs.Generated.{Sg}
use Rattle.ua_table.specs.Listings.{Row, vectors_of, IsListing}

-- the rows are exactly what is generated in the power
pub record AreExact (a : FiniteAlgebra) (width : ℕ) (gens rows : List Vector) : Type 0 where
  pub generated : (v : Vector) → Contains rows v → Sg (power a width) gens v
  pub all : (v : Vector) → Sg (power a width) gens v → Contains rows v

-- a listing of exactly what vectors of the power generate
pub record IsPowerListing (a : FiniteAlgebra) (width : ℕ) (gens : List Vector) (rows : List Row) : Type 0 where
  pub wide : IsWidth width
  pub admitted : AreVectorsOf (power a width) gens
  pub listing : IsListing (power a width) gens rows
  pub exact : AreExact a width gens (vectors_of rows)
  pub vectors : AreVectorsOf (power a width) (vectors_of rows)
