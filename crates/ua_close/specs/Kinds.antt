-- Which kind of listing there is.
use Rattle.std.specs.Prelude.{ℕ, ◌*◌, List, [], ◌∷◌}
use Rattle.ua_table.specs.Algebras.{Product, Vector}
use Rattle.ua_table.specs.Listings.{Row, IsClosedListing, vectors_of}
use Rattle.ua_table.specs.Orders.{IsLeast}
use Rattle.ua_work.specs.declared.goals.Goal.{Goal}
use Rattle.ua_work.specs.Goals.{Meets}
use Rattle.ua_close.specs.declared.close.Closure.{Closure}
use Rattle.ua_close.specs.Answers.{Answers, IsSerialAnswer}

-- the vectors of the rows meet the goal
abbrev pub RowsMeet : Goal → List Row → Type 0
RowsMeet goal rows = Meets goal (vectors_of rows)

-- how many vectors a product has
abbrev pub cardinality : Product → ℕ
cardinality [] = 1
cardinality (a ∷ p) = a.size * cardinality p

-- a closed or an exceeding listing, whose rows have the ranks that the serial order gives them
pub record HasAnswer (p : Product) (gens : List Vector) (b : ℕ) : Type 0 where
  pub closure : Closure
  pub answers : Answers p gens b closure
  pub serial : IsSerialAnswer p gens closure

-- a closed listing
pub record HasClosedListing (p : Product) (gens : List Vector) (b : ℕ) : Type 0 where
  pub rows : List Row
  pub closed : IsClosedListing p gens b rows

-- the least listing
pub record HasLeast (p : Product) (gens : List Vector) (b : ℕ) : Type 0 where
  pub rows : List Row
  pub least : IsLeast p gens b rows
