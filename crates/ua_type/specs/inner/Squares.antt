-- What is told of the type of a subtrace.
use Rattle.std.specs.Prelude.{ℕ, replicate, Option, Some, None, Result, Ok, Err}
use Rattle.ua_table.specs.Algebras.{FiniteAlgebra}
use Rattle.ua_close.specs.declared.close.CloseError.{CloseError}
use Rattle.ua_close.specs.Answers.{IsWide, IsCause}
use Rattle.ua_type.specs.Types.{square_generators, HasType}
use Rattle.ua_type.specs.Trials.{HasMoreSquares}

-- the type of a pair, or none where its squares are more than the budget; squares that are too wide are refused
abbrev pub MayHaveType : FiniteAlgebra → ℕ → ℕ → ℕ → Result (Option ℕ) CloseError → Type 0
MayHaveType b budget x y (Ok None) = (¬ IsWide (replicate 4 b) (square_generators b x y) budget) × HasMoreSquares b budget x y
MayHaveType b budget x y (Ok (Some number)) = (¬ IsWide (replicate 4 b) (square_generators b x y) budget) × (¬ HasMoreSquares b budget x y) × HasType b x y number
MayHaveType b budget x y (Err e) = IsCause (replicate 4 b) (square_generators b x y) budget e
