-- The derived and the lower series of an algebra.
use Rattle.std.specs.Prelude.{◌≡◌, ◌≢◌, ℕ, List, [], ◌∷◌, replicate}
use Rattle.ua_table.specs.Algebras.{FiniteAlgebra}
use Rattle.ua_close.specs.declared.close.CloseError.TheVariants as causes
use Rattle.ua_close.specs.Answers.{IsWide, IsCause}
use Rattle.ua_part.specs.Partitions.{Partition, full_on}
use Rattle.ua_matrix.specs.Matrices.{matrix_generators}
use Rattle.ua_matrix.specs.Answers.{HasMoreMatrices}
use Rattle.ua_comm.specs.declared.members.Kind.{Kind}
use Rattle.ua_comm.specs.declared.members.Kind.TheVariants.{Derived, Lower}
use Rattle.ua_comm.specs.Commutators.{IsCommutator}

-- what a member d is commuted with: with itself in the derived series, and with the full congruence in the lower
abbrev pub partner : FiniteAlgebra → Kind → Partition → Partition
partner a Derived d = d
partner a Lower d = full_on a.size

-- e is the successor of d: [d,d] in the derived series, [1,d] in the lower
abbrev pub IsSuccessor : FiniteAlgebra → Kind → Partition → Partition → Type 0
IsSuccessor a kind d e = IsCommutator a (partner a kind d) d e

-- there are more matrices than the budget for the successor of d
abbrev pub IsBeyond : FiniteAlgebra → Kind → ℕ → Partition → Type 0
IsBeyond a kind b d = HasMoreMatrices a (partner a kind d) d b

-- they are too wide to be closed
abbrev pub AreTooWide : FiniteAlgebra → Kind → ℕ → Partition → Type 0
AreTooWide a kind b d = IsWide (replicate 4 a) (matrix_generators (partner a kind d) d) b

-- e is the successor of d, and its matrices can be closed within the budget
abbrev pub IsSuccessorWithin : FiniteAlgebra → Kind → ℕ → Partition → Partition → Type 0
IsSuccessorWithin a kind b d e = IsSuccessor a kind d e × (¬ IsBeyond a kind b d) × ¬ AreTooWide a kind b d

-- behind d, each member is the next of the one before it, and another
abbrev pub IsDescent : (Partition → Partition → Type 0) → Partition → List Partition → Type 0
IsDescent Next d [] = Unit {0}
IsDescent Next d (e ∷ rest) = Next d e × (d ≢ e) × IsDescent Next e rest

-- the last of d and the members behind it
abbrev pub last_from : Partition → List Partition → Partition
last_from d [] = d
last_from d (e ∷ rest) = last_from e rest

-- the last member
abbrev pub last_member : List Partition → Partition
last_member [] = []
last_member (d ∷ rest) = last_from d rest

-- the members begin at the full congruence, and descend
abbrev pub IsBeginning : FiniteAlgebra → (Partition → Partition → Type 0) → List Partition → Type 0
IsBeginning a Next [] = ⊥
IsBeginning a Next (d ∷ rest) = (d ≡ full_on a.size) × IsDescent Next d rest

-- so they do in the series of the algebra, each within the budget
abbrev pub IsBeginningWithin : FiniteAlgebra → Kind → ℕ → List Partition → Type 0
IsBeginningWithin a kind b members = IsBeginning a (IsSuccessorWithin a kind b) members

-- the whole series: it ends at the first member that is its own next
pub record IsSeries (a : FiniteAlgebra) (Next : Partition → Partition → Type 0) (members : List Partition) : Type 0 where
  pub beginning : IsBeginning a Next members
  pub ended : Next (last_member members) (last_member members)

-- the members before a successor that has more matrices than the budget
pub record IsCutSeries (a : FiniteAlgebra) (kind : Kind) (b : ℕ) (members : List Partition) : Type 0 where
  pub beginning : IsBeginningWithin a kind b members
  pub beyond : IsBeyond a kind b (last_member members)
  pub narrow : ¬ AreTooWide a kind b (last_member members)

-- the series comes to a successor whose matrices are too wide, of so many records and cells
pub record IsWideSeries (a : FiniteAlgebra) (kind : Kind) (b records cells : ℕ) : Type 0 where
  pub members : List Partition
  pub beginning : IsBeginningWithin a kind b members
  pub cause : IsCause (replicate 4 a) (matrix_generators (partner a kind (last_member members)) (last_member members)) b (causes.Wide records cells)
