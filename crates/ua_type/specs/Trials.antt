-- Which sets are closed in search of the first subtrace, and whether they are within a budget.
use Rattle.std.specs.Prelude.{◌≢◌, ◌⊎◌, ℕ, replicate}
use Rattle.ua_table.specs.Algebras.{FiniteAlgebra}
use Rattle.ua_table.specs.Generated.{HasMoreThan}
use Rattle.ua_close.specs.Answers.{IsWide, IsCause}
use Rattle.ua_close.specs.declared.close.CloseError.{CloseError}
use Rattle.ua_part.specs.Partitions.{Partition, SameBlock}
use Rattle.ua_type.specs.Subtraces.{pair_generators, Generates, IsRefuted, IsBefore}
use Rattle.ua_type.specs.Types.{square_generators}

-- related pairs of different elements are tried in order, up to the first that is not refuted: (x,y) is one of those tried
pub record IsTried (b : FiniteAlgebra) (theta : Partition) (x y : ℕ) : Type 0 where
  pub related : SameBlock theta x y
  pub differ : x ≢ y
  pub before : (c d : ℕ) → IsBefore c d x y → SameBlock theta c d → c ≢ d → IsRefuted b c d

-- in the trial of (x,y), the pairs of different elements that it generates are asked in order, up to the first that does not generate it: (c,d) is one of those asked
pub record IsAsked (b : FiniteAlgebra) (x y c d : ℕ) : Type 0 where
  pub generated : Generates b x y c d
  pub differ : c ≢ d
  pub before : (e f : ℕ) → IsBefore e f c d → Generates b x y e f → e ≢ f → Generates b e f x y

-- what (c,d) generates is closed: (c,d) is tried, or asked in the trial of another
abbrev pub IsClosedFor : FiniteAlgebra → Partition → ℕ → ℕ → Type 0
IsClosedFor b theta c d = IsTried b theta c d ⊎ ((x y : ℕ) × IsTried b theta x y × IsAsked b x y c d)

-- (x,y) generates more pairs than the budget
abbrev pub HasMorePairs : FiniteAlgebra → ℕ → ℕ → ℕ → Type 0
HasMorePairs b budget x y = HasMoreThan (replicate 2 b) (pair_generators b x y) budget

-- it generates more squares than the budget
abbrev pub HasMoreSquares : FiniteAlgebra → ℕ → ℕ → ℕ → Type 0
HasMoreSquares b budget x y = HasMoreThan (replicate 4 b) (square_generators b x y) budget

-- each set of pairs that is closed is within the budget
abbrev pub AllWithin : FiniteAlgebra → Partition → ℕ → Type 0
AllWithin b theta budget = (c d : ℕ) → IsClosedFor b theta c d → ¬ HasMorePairs b budget c d

-- a set of pairs that is closed is not
pub record SomeExceeds (b : FiniteAlgebra) (theta : Partition) (budget : ℕ) : Type 0 where
  pub first : ℕ
  pub second : ℕ
  pub closed : IsClosedFor b theta first second
  pub beyond : HasMorePairs b budget first second

-- no pair generates a set of pairs that is too wide to be closed
abbrev pub ArePairsNarrow : FiniteAlgebra → ℕ → Type 0
ArePairsNarrow b budget = (x y : ℕ) → ¬ IsWide (replicate 2 b) (pair_generators b x y) budget

-- each does, all with these numbers: they count the generators alone
abbrev pub ArePairsWide : FiniteAlgebra → ℕ → CloseError → Type 0
ArePairsWide b budget e = (x y : ℕ) → IsCause (replicate 2 b) (pair_generators b x y) budget e
