-- What comes of asking the pairs that a pair generates, and of going down to one that does not generate it.
use Rattle.std.specs.Prelude.{◌≡◌, ◌≢◌, ℕ, ◌<◌, List, replicate, slice_index, Option, Some, None, Result, Ok, Err}
use Rattle.std.specs.Option.{IsSomeAnd}
use Rattle.std.specs.List.{AllByRecursion}
use Rattle.ua_table.specs.Algebras.{Vector, FiniteAlgebra}
use Rattle.ua_table.specs.Listings.{Row, IsClosedListing}
use Rattle.ua_close.specs.declared.close.CloseError.{CloseError}
use Rattle.ua_type.specs.declared.known.Known.{Known}
use Rattle.ua_type.specs.declared.descents.Sifted.{Sifted}
use Rattle.ua_type.specs.declared.descents.Sifted.TheVariants as sifted
use Rattle.ua_type.specs.declared.descents.Descent.{Descent}
use Rattle.ua_type.specs.Subtraces.{pair_generators, Generates}
use Rattle.ua_type.specs.Trials.{HasMorePairs, ArePairsWide}
use Rattle.ua_type.specs.inner.Outcomes.{GoesBack}
use Rattle.ua_type.specs.Known.{IsSettled}
use Rattle.ua_type.specs.inner.Known.{IsKept}

-- the pairs that the pair generates are these
abbrev pub AreGenerated : FiniteAlgebra → ℕ → ℕ × ℕ → List Row → Type 0
AreGenerated b budget pair list = IsClosedListing (replicate 2 b) (pair_generators b pair.0 pair.1) budget list

-- the pair of a row, whose elements differ, does not generate the pair, but these, within the budget
pub record IsLacking (b : FiniteAlgebra) (budget : ℕ) (row : ℕ × ℕ) (pair : ℕ × ℕ) (list : List Row) : Type 0 where
  pub first : row.0 < b.size
  pub second : row.1 < b.size
  pub within : ¬ HasMorePairs b budget row.0 row.1
  pub differ : row.0 ≢ row.1
  pub lacks : ¬ Generates b row.0 row.1 pair.0 pair.1
  pub closed : AreGenerated b budget row list

-- what comes of asking the pair of a row; pairs that are too wide are refused
abbrev pub MayAsk : FiniteAlgebra → ℕ → Vector → ℕ × ℕ → Result (Option (List Row)) CloseError → Type 0
MayAsk b budget row pair (Ok None) = GoesBack b row pair
MayAsk b budget row pair (Ok (Some list)) = IsLacking b budget (slice_index row 0, slice_index row 1) pair list
MayAsk b budget row pair (Err e) = ArePairsWide b budget e

-- a pair within the budget that generates the pair
abbrev pub LeadsTo : FiniteAlgebra → ℕ → ℕ × ℕ → ℕ × ℕ → Type 0
LeadsTo b budget pair q = (¬ HasMorePairs b budget q.0 q.1) × Generates b q.0 q.1 pair.0 pair.1

-- a pair of different elements with what it generates, and pairs that generate it
pub record IsDescent (b : FiniteAlgebra) (budget : ℕ) (descent : Descent) : Type 0 where
  pub first : descent.pair.0 < b.size
  pub second : descent.pair.1 < b.size
  pub differ : descent.pair.0 ≢ descent.pair.1
  pub closed : AreGenerated b budget descent.pair descent.list
  pub above : AllByRecursion (LeadsTo b budget descent.pair) descent.above.items

-- what comes of asking the pairs that the pair generates
abbrev pub IsSifted : FiniteAlgebra → ℕ → Known → ℕ × ℕ → Sifted → Type 0
IsSifted b budget known pair sifted.Minimal = (c d : ℕ) → Generates b pair.0 pair.1 c d → c ≢ d → Generates b c d pair.0 pair.1
IsSifted b budget known pair sifted.Settled = IsSomeAnd known.least (λ least. IsSettled b budget least pair.0 pair.1)
IsSifted b budget known pair (sifted.Lacks row list) = Generates b pair.0 pair.1 row.0 row.1 × IsLacking b budget row pair list

-- the descent stays at its pair
pub record IsSiftedTo (b : FiniteAlgebra) (budget : ℕ) (known : Known) (old new : Descent) (answer : Sifted) : Type 0 where
  pub pair_stays : new.pair ≡ old.pair
  pub list_stays : new.list ≡ old.list
  pub descent : IsDescent b budget new
  pub sifted : IsSifted b budget known new.pair answer

-- pairs that are too wide are refused
abbrev pub MaySift : FiniteAlgebra → ℕ → Known → Descent → Descent → Result Sifted CloseError → Type 0
MaySift b budget known old new (Ok answer) = IsSiftedTo b budget known old new answer
MaySift b budget known old new (Err e) = ArePairsWide b budget e

-- what is known stays right; pairs that are too wide are refused
abbrev pub MaySettle : FiniteAlgebra → ℕ → ℕ × ℕ → Known → Known → Result (Unit {0}) CloseError → Type 0
MaySettle b budget pair old new (Ok _) = IsKept b budget pair.0 pair.1 old new
MaySettle b budget pair old new (Err e) = ArePairsWide b budget e
