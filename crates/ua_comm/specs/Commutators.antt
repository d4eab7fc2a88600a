-- Commutators of congruences.
use Rattle.std.specs.Prelude.{ℕ}
use Rattle.ua_table.specs.Algebras.{FiniteAlgebra}
use Rattle.ua_part.specs.Partitions.{Partition, LiesBelow}
use Rattle.ua_prod.specs.Congruences.{IsCongruence}
use Rattle.ua_matrix.specs.Centrality.{Centralizes}
use Rattle.ua_matrix.specs.Answers.{HasMoreMatrices}
use Rattle.ua_comm.specs.declared.commutators.Comm.{Comm}
use Rattle.ua_comm.specs.declared.commutators.Comm.TheVariants.{Whole, Exceeds}

-- the least congruence modulo which alpha centralizes beta
pub record IsCommutator (a : FiniteAlgebra) (alpha beta delta : Partition) : Type 0 where
  pub congruence : IsCongruence a delta
  pub centralizes : Centralizes a alpha beta delta
  pub least : (other : Partition) → IsCongruence a other → Centralizes a alpha beta other → LiesBelow delta other

-- there is a commutator
pub record HasCommutator (a : FiniteAlgebra) (alpha beta : Partition) : Type 0 where
  pub delta : Partition
  pub is : IsCommutator a alpha beta delta

-- the commutator, with no more matrices than the budget; or there are more
abbrev pub TellsCommutator : FiniteAlgebra → Partition → Partition → ℕ → Comm → Type 0
TellsCommutator a alpha beta b (Whole delta) = IsCommutator a alpha beta delta × ¬ HasMoreMatrices a alpha beta b
TellsCommutator a alpha beta b Exceeds = HasMoreMatrices a alpha beta b
