-- What may be answered of commutators and of series, with the refusals.
use Rattle.std.specs.Prelude.{ℕ, replicate, Result, Ok, Err}
use Rattle.ua_table.specs.Algebras.{FiniteAlgebra}
use Rattle.ua_close.specs.declared.close.CloseError.{CloseError}
use Rattle.ua_close.specs.declared.close.CloseError.TheVariants.{Wide, OutOfMemory}
use Rattle.ua_close.specs.Answers.{IsWide, IsCause}
use Rattle.ua_close.specs.Permitted.{IsAnswerable}
use Rattle.ua_part.specs.Partitions.{Partition}
use Rattle.ua_matrix.specs.Matrices.{matrix_generators}
use Rattle.ua_comm.specs.declared.commutators.Comm.{Comm}
use Rattle.ua_comm.specs.declared.members.Kind.{Kind}
use Rattle.ua_comm.specs.declared.members.Series.{Series}
use Rattle.ua_comm.specs.declared.members.Series.TheVariants.{Whole, Exceeds}
use Rattle.ua_comm.specs.Commutators.{TellsCommutator}
use Rattle.ua_comm.specs.Series.{IsSuccessorWithin, IsSeries, IsCutSeries, IsWideSeries}

-- the commutator, or that its matrices are more than the budget; matrices that are too wide are refused
abbrev pub MayCommute : FiniteAlgebra → Partition → Partition → ℕ → Result Comm CloseError → Type 0
MayCommute a alpha beta b (Ok comm) = (¬ IsWide (replicate 4 a) (matrix_generators alpha beta) b) × TellsCommutator a alpha beta b comm
MayCommute a alpha beta b (Err error) = IsCause (replicate 4 a) (matrix_generators alpha beta) b error

-- the whole series, or its members before matrices that are more than the budget; a series that comes to matrices that are too wide is refused
abbrev pub MayDescend : FiniteAlgebra → Kind → ℕ → Result Series CloseError → Type 0
MayDescend a kind b (Ok (Whole members)) = IsSeries a (IsSuccessorWithin a kind b) members.items
MayDescend a kind b (Ok (Exceeds members)) = IsCutSeries a kind b members.items
MayDescend a kind b (Err (Wide records cells)) = IsWideSeries a kind b records cells
MayDescend a kind b (Err OutOfMemory) = Unit {0}

-- ---- they can be told otherwise than by want of memory

-- the commutator, with its refusals
abbrev pub CanTellCommutator : FiniteAlgebra → Partition → Partition → ℕ → Type 0
CanTellCommutator a alpha beta b = IsAnswerable (MayCommute a alpha beta b) OutOfMemory

-- the series, with its refusals
abbrev pub CanTellSeries : FiniteAlgebra → Kind → ℕ → Type 0
CanTellSeries a kind b = IsAnswerable (MayDescend a kind b) OutOfMemory
