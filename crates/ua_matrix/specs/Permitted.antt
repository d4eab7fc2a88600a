-- What may be answered when it is asked whether a congruence centralizes another modulo a third, with the refusals.
use Rattle.std.specs.Prelude.{◌≡◌, ℕ, replicate, Result, Ok, Err}
use Rattle.ua_table.specs.Algebras.{FiniteAlgebra}
use Rattle.ua_close.specs.Answers.{IsWide, IsCause}
use Rattle.ua_close.specs.declared.close.CloseError.{CloseError}
use Rattle.ua_close.specs.declared.close.CloseError.TheVariants.{OutOfMemory}
use Rattle.ua_close.specs.Permitted.{IsAnswerable}
use Rattle.ua_part.specs.Partitions.{Partition}
use Rattle.ua_matrix.specs.declared.centrality.Central.{Central}
use Rattle.ua_matrix.specs.Matrices.{matrix_generators}
use Rattle.ua_matrix.specs.Answers.{TellsCentral, IsSerialCentral}

-- what the matrices tell, serial with one worker; a closure of them that is too wide is refused
abbrev pub MayBeCentral : FiniteAlgebra → Partition → Partition → Partition → ℕ → ℕ → Result Central CloseError → Type 0
MayBeCentral a alpha beta delta b w (Ok central) = (¬ IsWide (replicate 4 a) (matrix_generators alpha beta) b) × TellsCentral a alpha beta delta b central × (w ≡ 1 → IsSerialCentral a alpha beta delta b central)
MayBeCentral a alpha beta delta b w (Err error) = IsCause (replicate 4 a) (matrix_generators alpha beta) b error

-- it can be told otherwise than by want of memory
abbrev pub CanTellCentral : FiniteAlgebra → Partition → Partition → Partition → ℕ → ℕ → Type 0
CanTellCentral a alpha beta delta b w = IsAnswerable (MayBeCentral a alpha beta delta b w) OutOfMemory
