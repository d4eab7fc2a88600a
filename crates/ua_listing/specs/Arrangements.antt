-- The listing of records: their vectors in order, each with its rank and its origin by positions.
use Rattle.std.specs.Prelude.{◌≡◌, ℕ, ◌<◌, List, [], ◌∷◌, length, map, slice_get, slice_index_or, Some}
use Rattle.std.specs.List.{AllByRecursion}
use Rattle.ua_table.specs.declared.origins.Origin.{Origin}
use Rattle.ua_table.specs.Algebras.{Vector, IsIncreasing}
use Rattle.ua_table.specs.Origins.{IsOrigin, arguments_of}
use Rattle.ua_table.specs.Counting.{EachOnceBelow}
use Rattle.ua_table.specs.Listings.{Row, vectors_of, ranks_of}
use Rattle.ua_table.specs.Orders.{Record, by_rank}
use Rattle.ua_listing.specs.Rankings.{IsRanking, ArePositions}

-- the origins of the rows, in order
abbrev pub origins_of : List Row → List Origin
origins_of rows = map (λ (r : Row). r.origin) rows

-- the rows of these ranks, with these origins
abbrev pub listed : List Vector → List ℕ → List Origin → List Row
listed rows [] origins = []
listed rows (r ∷ ranks) [] = []
listed rows (r ∷ ranks) (o ∷ origins) = record { vector = slice_index_or rows r []; rank = r; origin = o } ∷ listed rows ranks origins

-- the ranks in order, the position of each rank, and an origin for each
pub record IsIndex (rows : List Vector) (ranks places : List ℕ) (os : List Origin) : Type 0 where
  pub ranking : IsRanking rows ranks
  pub positions : ArePositions ranks places
  pub origins : length os ≡ length ranks

-- an origin with positions in place of ranks
abbrev pub by_position : List ℕ → List ℕ → Origin → Origin
by_position ks positions o = by_rank ks positions o

-- an origin over n rows, for some number of generators
pub record IsOriginOver (ks : List ℕ) (n : ℕ) (o : Origin) : Type 0 where
  pub generators : ℕ
  pub valid : IsOrigin ks generators n o

-- the rows are these records in the order of their vectors, and their origins name rows where those of the records name ranks
pub record IsArranged (ks : List ℕ) (records : List Record) (rows : List Row) : Type 0 where
  pub increasing : IsIncreasing (vectors_of rows)
  pub count : length rows ≡ length records
  pub ranks : EachOnceBelow (length rows) (ranks_of rows)
  pub named : AllByRecursion (λ (r : Row). AllByRecursion (λ a. a < length rows) (arguments_of ks r.origin)) rows
  pub taken : (i : ℕ) (r : Row) → slice_get rows i ≡ Some r → slice_get records r.rank ≡ Some (r.vector, by_rank ks (ranks_of rows) r.origin)
