-- What is told of the first subtrace of a cover.
use Rattle.std.specs.Prelude.{◌≡◌, ℕ}
use Rattle.ua_table.specs.Algebras.{FiniteAlgebra}
use Rattle.ua_part.specs.Partitions.{Partition}
use Rattle.ua_type.specs.declared.subtraces.Trace.{Trace}
use Rattle.ua_type.specs.declared.subtraces.Trace.TheVariants.{Pair, Exceeds}
use Rattle.ua_type.specs.Quotients.{quotient_by, image_of, leader_of}
use Rattle.ua_type.specs.Subtraces.{IsFirstSubtrace}
use Rattle.ua_type.specs.Trials.{AllWithin, SomeExceeds}

-- the first subtrace of beta/alpha in the quotient by alpha, each block by its least member; each set of pairs that is closed is within the budget
pub record IsTrace (a : FiniteAlgebra) (alpha beta : Partition) (budget low high : ℕ) : Type 0 where
  pub first : ℕ
  pub second : ℕ
  pub subtrace : IsFirstSubtrace (quotient_by a alpha) (image_of alpha beta) first second
  pub within : AllWithin (quotient_by a alpha) (image_of alpha beta) budget
  pub low_is : low ≡ leader_of alpha first
  pub high_is : high ≡ leader_of alpha second

-- this, or a set of pairs that is closed is beyond the budget
abbrev pub TellsTrace : FiniteAlgebra → Partition → Partition → ℕ → Trace → Type 0
TellsTrace a alpha beta budget (Pair low high) = IsTrace a alpha beta budget low high
TellsTrace a alpha beta budget Exceeds = SomeExceeds (quotient_by a alpha) (image_of alpha beta) budget
