-- The lattice of an algebra's congruences.
use Rattle.std.specs.Prelude.{◌≡◌, ◌≢◌, ℕ, ◌+◌, ◌<◌, ◌≤◌, ◌==◌, ◌↔◌, List, [], ◌++◌, length, slice_index_or, Contains, count_by}
use Rattle.std.specs.List.{AllByRecursion}
use Rattle.std.specs.List.Sorted.{IsStrictlySortedBy, IsStrictlyIncreasing}
use Rattle.std.specs.Cmp.Lexicographic.{slice_cmp}
use Rattle.std.specs.Ordering.{nat_cmp, ordering_then}
use Rattle.std.specs.declared.cmp.Ordering.{Ordering}
use Rattle.ua_table.specs.Algebras.{FiniteAlgebra}
use Rattle.ua_part.specs.Partitions.{Partition, LiesBelow, IsJoin}
use Rattle.ua_part.specs.Blocks.{block_count}
use Rattle.ua_prod.specs.Congruences.{IsCongruence}

-- by number of blocks downwards, then by entries
abbrev pub by_blocks : Partition → Partition → Ordering
by_blocks p q = ordering_then (nat_cmp (block_count q) (block_count p)) (slice_cmp nat_cmp p q)

-- congruences, each once, in order
pub record AreCongruences (a : FiniteAlgebra) (list : List Partition) : Type 0 where
  pub in_order : IsStrictlySortedBy by_blocks list
  pub congruences : AllByRecursion (IsCongruence a) list

-- each congruence is in the list
abbrev pub HasCongruences : FiniteAlgebra → List Partition → Type 0
HasCongruences a list = (p : Partition) → IsCongruence a p → Contains list p

-- all congruences, each once, in order
pub record IsCongruenceList (a : FiniteAlgebra) (list : List Partition) : Type 0 where
  pub in_order : IsStrictlySortedBy by_blocks list
  pub all : (p : Partition) → Contains list p ↔ IsCongruence a p

-- beta covers alpha in the lattice of congruences: it lies above, and no third lies between
pub record IsCover (a : FiniteAlgebra) (alpha beta : Partition) : Type 0 where
  pub lower : IsCongruence a alpha
  pub upper : IsCongruence a beta
  pub below : LiesBelow alpha beta
  pub differ : alpha ≢ beta
  pub next : (r : Partition) → IsCongruence a r → LiesBelow alpha r → LiesBelow r beta → r ≢ alpha → r ≡ beta

-- the partition at a place
abbrev pub at : List Partition → ℕ → Partition
at list i = slice_index_or list i []

-- by the first place, then by the second
abbrev pub by_places : ℕ × ℕ → ℕ × ℕ → Ordering
by_places x y = ordering_then (nat_cmp x.0 y.0) (nat_cmp x.1 y.1)

-- the pairs of places (i, j) where the j-th covers the i-th, ascending
pub record AreCovers (a : FiniteAlgebra) (list : List Partition) (pairs : List (ℕ × ℕ)) : Type 0 where
  pub in_order : IsStrictlySortedBy by_places pairs
  pub all : (i j : ℕ) → Contains pairs (i, j) ↔ ((i < length list) × (j < length list) × IsCover a (at list i) (at list j))

-- how many of the covers have this place above
abbrev pub lower_covers : List (ℕ × ℕ) → ℕ → ℕ
lower_covers pairs j = count_by (λ (pair : ℕ × ℕ). pair.1 == j) pairs

-- the places that have exactly one lower cover, ascending
pub record AreIrreducible (pairs : List (ℕ × ℕ)) (places : List ℕ) : Type 0 where
  pub in_order : IsStrictlyIncreasing places
  pub all : (j : ℕ) → Contains places j ↔ (lower_covers pairs j ≡ 1)

-- each two of the list have their join in it
abbrev pub IsJoinClosed : List Partition → Type 0
IsJoinClosed list = (p q : Partition) → Contains list p → Contains list q → (r : Partition) × Contains list r × IsJoin p q r

-- the list goes on with joins of its members with p, and each of these is there
pub record IsJoinedWith (list : List Partition) (p : Partition) (more : List Partition) : Type 0 where
  pub joins : (r : Partition) → Contains more r → (q : Partition) × Contains list q × IsJoin q p r
  pub all : (q : Partition) → Contains list q → (r : Partition) × Contains (list ++ more) r × IsJoin q p r

-- all congruences of an algebra, at most so many, and their order
pub record IsWholeLattice (a : FiniteAlgebra) (budget : ℕ) (list : List Partition) (covers : List (ℕ × ℕ)) (irreducibles : List ℕ) : Type 0 where
  pub all_of_them : IsCongruenceList a list
  pub within : length list ≤ budget
  pub covering : AreCovers a list covers
  pub irreducible : AreIrreducible covers irreducibles

-- one congruence more than the budget
pub record IsExceedingList (a : FiniteAlgebra) (budget : ℕ) (list : List Partition) : Type 0 where
  pub congruences : AreCongruences a list
  pub beyond : length list ≡ budget + 1
