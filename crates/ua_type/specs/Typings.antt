-- What is told of the type of a cover.
use Rattle.std.specs.Prelude.{◌⊎◌, ℕ, replicate}
use Rattle.ua_table.specs.Algebras.{FiniteAlgebra}
use Rattle.ua_close.specs.Answers.{IsWide, IsCause}
use Rattle.ua_close.specs.declared.close.CloseError.{CloseError}
use Rattle.ua_part.specs.Partitions.{Partition}
use Rattle.ua_type.specs.declared.typings.Typed.{Typed}
use Rattle.ua_type.specs.declared.typings.Typed.TheVariants.{Found, Exceeds}
use Rattle.ua_type.specs.Quotients.{quotient_by, image_of}
use Rattle.ua_type.specs.Subtraces.{IsFirstSubtrace}
use Rattle.ua_type.specs.Types.{square_generators, HasType}
use Rattle.ua_type.specs.Trials.{AllWithin, SomeExceeds, HasMoreSquares}
use Rattle.ua_type.specs.Traces.{IsTrace}

-- the first subtrace of beta/alpha in the quotient by alpha, and its type there; its squares too are within the budget
pub record IsTyped (a : FiniteAlgebra) (alpha beta : Partition) (budget number low high : ℕ) : Type 0 where
  pub trace : IsTrace a alpha beta budget low high
  pub narrow : ¬ IsWide (replicate 4 (quotient_by a alpha)) (square_generators (quotient_by a alpha) trace.first trace.second) budget
  pub few : ¬ HasMoreSquares (quotient_by a alpha) budget trace.first trace.second
  pub type_is : HasType (quotient_by a alpha) trace.first trace.second number

-- the sets of pairs are within the budget, and the squares of the first subtrace are not
pub record SquaresExceed (b : FiniteAlgebra) (theta : Partition) (budget : ℕ) : Type 0 where
  pub low : ℕ
  pub high : ℕ
  pub subtrace : IsFirstSubtrace b theta low high
  pub within : AllWithin b theta budget
  pub narrow : ¬ IsWide (replicate 4 b) (square_generators b low high) budget
  pub beyond : HasMoreSquares b budget low high

-- the sets of pairs are within the budget, and the squares of the first subtrace are too wide to be closed
pub record AreSquaresWide (b : FiniteAlgebra) (theta : Partition) (budget : ℕ) (e : CloseError) : Type 0 where
  pub low : ℕ
  pub high : ℕ
  pub subtrace : IsFirstSubtrace b theta low high
  pub within : AllWithin b theta budget
  pub cause : IsCause (replicate 4 b) (square_generators b low high) budget e

-- the type, or one of the sets that are closed is beyond the budget
abbrev pub TellsType : FiniteAlgebra → Partition → Partition → ℕ → Typed → Type 0
TellsType a alpha beta budget (Found number low high) = IsTyped a alpha beta budget number low high
TellsType a alpha beta budget Exceeds = SomeExceeds (quotient_by a alpha) (image_of alpha beta) budget ⊎ SquaresExceed (quotient_by a alpha) (image_of alpha beta) budget
