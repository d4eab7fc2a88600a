-- What comes of trials: what private functions say.
use Rattle.std.specs.Prelude.{◌≢◌, ℕ, ◌<◌, slice_index, Result, Ok, Err}
use Rattle.ua_table.specs.Algebras.{Vector, FiniteAlgebra}
use Rattle.ua_close.specs.declared.close.CloseError.{CloseError}
use Rattle.ua_part.specs.Partitions.{Partition, SameBlock}
use Rattle.ua_type.specs.declared.trials.Trial.{Trial}
use Rattle.ua_type.specs.declared.trials.Trial.TheVariants.{Found, Vain, Beyond}
use Rattle.ua_type.specs.Subtraces.{Generates, IsRefuted}
use Rattle.ua_type.specs.Trials.{HasMorePairs, ArePairsNarrow, ArePairsWide}
use Rattle.ua_type.specs.Outcomes.{IsMinimal}

-- the pair of a row, if its elements differ, generates the other pair
abbrev pub GoesBack : FiniteAlgebra → Vector → ℕ × ℕ → Type 0
GoesBack b row pair = slice_index row 0 ≢ slice_index row 1 → Generates b (slice_index row 0) (slice_index row 1) pair.0 pair.1

-- (x,y) is within the budget, and refuted
pub record IsVain (b : FiniteAlgebra) (budget x y : ℕ) : Type 0 where
  pub within : ¬ HasMorePairs b budget x y
  pub refuted : IsRefuted b x y

-- what comes of the trial of a pair
abbrev pub IsTrial : FiniteAlgebra → ℕ → ℕ × ℕ → Trial → Type 0
IsTrial b budget pair (Found swap) = IsMinimal b budget pair.0 pair.1 swap
IsTrial b budget pair Vain = IsVain b budget pair.0 pair.1
IsTrial b budget pair Beyond = HasMorePairs b budget pair.0 pair.1

-- pairs that are too wide are refused
abbrev pub MayTry : FiniteAlgebra → ℕ → ℕ × ℕ → Result Trial CloseError → Type 0
MayTry b budget pair (Ok trial) = ArePairsNarrow b budget × IsTrial b budget pair trial
MayTry b budget pair (Err e) = ArePairsWide b budget e

-- a pair of related different elements is tried
abbrev pub MayTryRelated : FiniteAlgebra → Partition → ℕ → ℕ × ℕ → Result Trial CloseError → Type 0
MayTryRelated b theta budget pair (Ok Vain) = SameBlock theta pair.0 pair.1 → pair.0 ≢ pair.1 → IsVain b budget pair.0 pair.1
MayTryRelated b theta budget pair result = SameBlock theta pair.0 pair.1 × (pair.0 ≢ pair.1) × MayTry b budget pair result

-- all related pairs of an element below x were tried in vain
abbrev pub AreVainBelow : FiniteAlgebra → Partition → ℕ → ℕ → Type 0
AreVainBelow b theta budget x = (c d : ℕ) → c < x → SameBlock theta c d → c ≢ d → IsVain b budget c d

-- and those of x with an element below y
abbrev pub AreVainAt : FiniteAlgebra → Partition → ℕ → ℕ → ℕ → Type 0
AreVainAt b theta budget x y = (d : ℕ) → d < y → SameBlock theta x d → x ≢ d → IsVain b budget x d
