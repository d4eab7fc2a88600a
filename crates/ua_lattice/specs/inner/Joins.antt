-- Partitions that are found as joins.
use Rattle.std.specs.Prelude.{◌≡◌, ◌≤◌, List, ◌++◌, length, Contains}
use Rattle.std.specs.List.{AllByRecursion}
use Rattle.ua_table.specs.Algebras.{FiniteAlgebra}
use Rattle.ua_part.specs.Partitions.{Partition, IsPartition, LiesBelow, IsJoin, identity_on}
use Rattle.ua_prod.specs.Congruences.{IsCongruence}
use Rattle.ua_lattice.specs.Lattices.{IsJoinClosed}

-- the list goes on with nothing or with the join of two partitions, and has it then
pub record IsJoinEntered (old : List Partition) (p q : Partition) (new : List Partition) : Type 0 where
  pub more : List Partition
  pub is : new ≡ old ++ more
  pub one : length more ≤ 1
  pub joins : (r : Partition) → Contains more r → IsJoin p q r
  pub there : (r : Partition) × Contains new r × IsJoin p q r

-- the list goes on with joins of its members with p
pub record GoesOnWithJoins (old : List Partition) (p : Partition) (new : List Partition) : Type 0 where
  pub more : List Partition
  pub is : new ≡ old ++ more
  pub joins : (r : Partition) → Contains more r → (q : Partition) × Contains old q × IsJoin q p r

-- the join of each member of the one list with p is in the other
abbrev pub HasJoins : List Partition → Partition → List Partition → Type 0
HasJoins old p new = (q : Partition) → Contains old q → (r : Partition) × Contains new r × IsJoin q p r

-- p is the join of those of these partitions that lie below it
abbrev pub IsSpanned : List Partition → Partition → Type 0
IsSpanned generators p = (s : Partition) → IsPartition s → length s ≡ length p → ((q : Partition) → Contains generators q → LiesBelow q p → LiesBelow q s) → LiesBelow p s

-- congruences, the identity among them, that are closed under joins and spanned by some congruences
pub record IsSpannedLattice (a : FiniteAlgebra) (generators list : List Partition) : Type 0 where
  pub identity : Contains list (identity_on a.size)
  pub congruences : AllByRecursion (IsCongruence a) list
  pub closed : IsJoinClosed list
  pub generating : AllByRecursion (IsCongruence a) generators
  pub spanned : AllByRecursion (IsSpanned generators) list

-- what is in the one list is in the other
abbrev pub AreAmong : List Partition → List Partition → Type 0
AreAmong old new = (p : Partition) → Contains old p → Contains new p
