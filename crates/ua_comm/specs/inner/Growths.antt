-- Congruences that grow until each matrix of a list goes with them: what private functions say.
use Rattle.std.specs.Prelude.{◌<◌, List}
use Rattle.ua_table.specs.Counting.{total}
use Rattle.ua_table.specs.Algebras.{FiniteAlgebra, Vector}
use Rattle.ua_part.specs.Partitions.{Partition, LiesBelow}
use Rattle.ua_prod.specs.Congruences.{IsCongruence}
use Rattle.ua_matrix.specs.Matrices.{Goes, AllGo, Fails}

-- a congruence that lies below every congruence with which each matrix goes
pub record IsGrowing (a : FiniteAlgebra) (matrices : List Vector) (delta : Partition) : Type 0 where
  pub congruence : IsCongruence a delta
  pub within : (other : Partition) → IsCongruence a other → AllGo other matrices → LiesBelow delta other

-- the entries of q have a lesser total than those of p
abbrev pub IsLower : Partition → Partition → Type 0
IsLower q p = total (λ x. x) q < total (λ x. x) p

-- the old congruence, or the least above it with which the matrix goes, where it fails with the old one
pub record IsTakenIn (a : FiniteAlgebra) (old : Partition) (m : Vector) (new : Partition) : Type 0 where
  pub congruence : IsCongruence a new
  pub above : LiesBelow old new
  pub within : (other : Partition) → IsCongruence a other → LiesBelow old other → Goes other m → LiesBelow new other
  pub lower : Fails old m → IsLower new old

-- a congruence above the old one, with lesser entries, that still lies below every congruence with which each matrix goes
pub record IsSwept (a : FiniteAlgebra) (matrices : List Vector) (old new : Partition) : Type 0 where
  pub growing : IsGrowing a matrices new
  pub above : LiesBelow old new
  pub lower : IsLower new old
