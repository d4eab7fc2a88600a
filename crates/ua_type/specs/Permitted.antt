-- What may be answered of subtraces and of types, with the refusals.
use Rattle.std.specs.Prelude.{◌≡◌, ◌⊎◌, ℕ, List, ◌∷◌, ◌++◌, map, Result, Ok, Err}
use Rattle.std.specs.List.{AllByRecursion}
use Rattle.ua_table.specs.Algebras.{FiniteAlgebra}
use Rattle.ua_close.specs.declared.close.CloseError.{CloseError}
use Rattle.ua_close.specs.declared.close.CloseError.TheVariants.{Wide, OutOfMemory}
use Rattle.ua_part.specs.Partitions.{Partition}
use Rattle.ua_lattice.specs.Lattices.{IsWholeLattice, IsExceedingList, at}
use Rattle.ua_type.specs.declared.subtraces.Trace.{Trace}
use Rattle.ua_type.specs.declared.typings.Typed.{Typed}
use Rattle.ua_type.specs.declared.tables.Types.{Types}
use Rattle.ua_type.specs.declared.tables.Types.TheVariants.{Table, Exceeds}
use Rattle.ua_type.specs.Quotients.{quotient_by, image_of}
use Rattle.ua_type.specs.Trials.{ArePairsNarrow, ArePairsWide}
use Rattle.ua_type.specs.Traces.{TellsTrace}
use Rattle.ua_type.specs.Typings.{TellsType, AreSquaresWide}

-- the first subtrace in the quotient by alpha, or that a set of pairs is beyond the budget; pairs that are too wide are refused
abbrev pub MaySubtrace : FiniteAlgebra → Partition → Partition → ℕ → Result Trace CloseError → Type 0
MaySubtrace a alpha beta budget (Ok trace) = ArePairsNarrow (quotient_by a alpha) budget × TellsTrace a alpha beta budget trace
MaySubtrace a alpha beta budget (Err e) = ArePairsWide (quotient_by a alpha) budget e

-- the type at the first subtrace, or that a set is beyond the budget; pairs or squares that are too wide are refused
abbrev pub MayType : FiniteAlgebra → Partition → Partition → ℕ → Result Typed CloseError → Type 0
MayType a alpha beta budget (Ok typed) = ArePairsNarrow (quotient_by a alpha) budget × TellsType a alpha beta budget typed
MayType a alpha beta budget (Err (Wide r c)) = ArePairsWide (quotient_by a alpha) budget (Wide r c) ⊎ (ArePairsNarrow (quotient_by a alpha) budget × AreSquaresWide (quotient_by a alpha) (image_of alpha beta) budget (Wide r c))
MayType a alpha beta budget (Err OutOfMemory) = Unit {0}

-- the places of a row
abbrev pub places_of : ℕ × ℕ × Typed → ℕ × ℕ
places_of row = (row.0, row.1)

-- the row tells the type of its cover
abbrev pub IsRow : FiniteAlgebra → ℕ → List Partition → ℕ × ℕ × Typed → Type 0
IsRow a budget list row = MayType a (at list row.0) (at list row.1) budget (Ok row.2)

-- a row for each cover in the lattice of congruences, in its order
pub record IsTypeTable (a : FiniteAlgebra) (budget : ℕ) (rows : List (ℕ × ℕ × Typed)) : Type 0 where
  pub list : List Partition
  pub irreducibles : List ℕ
  pub lattice : IsWholeLattice a budget list (map places_of rows) irreducibles
  pub types : AllByRecursion (IsRow a budget list) rows

-- the covers before some cover have their types, and one of its sets is too wide, with these numbers
pub record IsWideAmong (a : FiniteAlgebra) (budget : ℕ) (list : List Partition) (covers : List (ℕ × ℕ)) (r c : ℕ) : Type 0 where
  pub rows : List (ℕ × ℕ × Typed)
  pub cover : ℕ × ℕ
  pub behind : List (ℕ × ℕ)
  pub covers_are : covers ≡ map places_of rows ++ cover ∷ behind
  pub types : AllByRecursion (IsRow a budget list) rows
  pub wide : MayType a (at list cover.0) (at list cover.1) budget (Err (Wide r c))

-- so it is among the covers of the lattice
pub record IsWideTable (a : FiniteAlgebra) (budget r c : ℕ) : Type 0 where
  pub list : List Partition
  pub covers : List (ℕ × ℕ)
  pub irreducibles : List ℕ
  pub lattice : IsWholeLattice a budget list covers irreducibles
  pub among : IsWideAmong a budget list covers r c

-- the types of all covers, or one congruence more than the budget; the first set that is too wide is refused
abbrev pub MayTypes : FiniteAlgebra → ℕ → Result Types CloseError → Type 0
MayTypes a budget (Ok (Table rows)) = IsTypeTable a budget rows.items
MayTypes a budget (Ok (Exceeds list)) = IsExceedingList a budget list.items
MayTypes a budget (Err (Wide r c)) = IsWideTable a budget r c
MayTypes a budget (Err OutOfMemory) = Unit {0}
