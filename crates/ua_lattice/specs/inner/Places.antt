-- Places in a list of partitions: which hold joins, and which cover which.
use Rattle.std.specs.Prelude.{◌≡◌, ℕ, ◌<◌, ◌↔◌, List, ◌++◌, length, map, Contains}
use Rattle.std.specs.List.{AllByRecursion}
use Rattle.std.specs.List.Sorted.{IsStrictlySortedBy, IsStrictlyIncreasing}
use Rattle.ua_table.specs.Algebras.{FiniteAlgebra}
use Rattle.ua_part.specs.Partitions.{Partition, IsPartition, LiesBelow, IsJoin}
use Rattle.ua_lattice.specs.Lattices.{by_blocks, at, IsCover, by_places}

-- partitions of equally many elements, each once, in order
pub record AreOrdered (list : List Partition) : Type 0 where
  pub size : ℕ
  pub partitions : AllByRecursion IsPartition list
  pub sizes : AllByRecursion (λ (p : Partition). length p ≡ size) list
  pub in_order : IsStrictlySortedBy by_blocks list

-- at place j stands the join of the i-th with a generator that does not lie below it
pub record IsJoinPlace (list generators : List Partition) (i j : ℕ) : Type 0 where
  pub within : j < length list
  pub generator : Partition
  pub inside : Contains generators generator
  pub apart : ¬ LiesBelow generator (at list i)
  pub join : IsJoin (at list i) generator (at list j)

-- the join of the i-th with this generator, unless that lies below it, stands at one of these places
abbrev pub HasJoinPlace : List Partition → List ℕ → ℕ → Partition → Type 0
HasJoinPlace list places i q = ¬ LiesBelow q (at list i) → (j : ℕ) × Contains places j × IsJoin (at list i) q (at list j)

-- the places of the joins of the i-th with the generators that do not lie below it
pub record AreJoinPlaces (list generators : List Partition) (i : ℕ) (places : List ℕ) : Type 0 where
  pub joins : AllByRecursion (IsJoinPlace list generators i) places
  pub all : AllByRecursion (HasJoinPlace list places i) generators

-- what stands at the place lies above what stands at one of these
pub record LiesAboveOne (list : List Partition) (places : List ℕ) (place : ℕ) : Type 0 where
  pub lower : ℕ
  pub inside : Contains places lower
  pub below : LiesBelow (at list lower) (at list place)

-- what stands at the place lies above nothing else at these places
abbrev pub IsLeastAmong : List Partition → List ℕ → ℕ → Type 0
IsLeastAmong list places j = (c : ℕ) → Contains places c → LiesBelow (at list c) (at list j) → c ≡ j

-- those of these places whose partitions lie above none of the others, ascending
pub record AreLeast (list : List Partition) (places least : List ℕ) : Type 0 where
  pub in_order : IsStrictlyIncreasing least
  pub all : (j : ℕ) → Contains least j ↔ (Contains places j × IsLeastAmong list places j)

-- the places that cover the i-th, ascending
pub record AreUpperCovers (a : FiniteAlgebra) (list : List Partition) (i : ℕ) (places : List ℕ) : Type 0 where
  pub in_order : IsStrictlyIncreasing places
  pub all : (j : ℕ) → Contains places j ↔ ((j < length list) × IsCover a (at list i) (at list j))

-- the covers of the first n
pub record AreCoversOfFirst (a : FiniteAlgebra) (list : List Partition) (n : ℕ) (pairs : List (ℕ × ℕ)) : Type 0 where
  pub in_order : IsStrictlySortedBy by_places pairs
  pub all : (i j : ℕ) → Contains pairs (i, j) ↔ ((i < n) × (j < length list) × IsCover a (at list i) (at list j))

-- the places go on with nothing or with that of the join of the i-th with q, and have it then, unless q lies below the i-th
pub record AreJoinPushed (list : List Partition) (i : ℕ) (q : Partition) (old new : List ℕ) : Type 0 where
  pub more : List ℕ
  pub is : new ≡ old ++ more
  pub within : AllByRecursion (λ j. j < length list) more
  pub apart : (j : ℕ) → Contains more j → ¬ LiesBelow q (at list i)
  pub joins : (j : ℕ) → Contains more j → IsJoin (at list i) q (at list j)
  pub there : HasJoinPlace list new i q

-- the place with each of others behind it
abbrev pub pairs_from : ℕ → List ℕ → List (ℕ × ℕ)
pairs_from i places = map (λ (j : ℕ). (i, j)) places
