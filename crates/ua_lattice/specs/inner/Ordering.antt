-- Partitions with their numbers of blocks, and lists of partitions in order.
use Rattle.std.specs.Prelude.{◌≡◌, List, map}
use Rattle.std.specs.List.Sorted.{IsPermutation, IsStrictlySortedBy}
use Rattle.ua_part.specs.Partitions.{Partition}
use Rattle.ua_part.specs.Blocks.{block_count}
use Rattle.ua_lattice.specs.declared.ordering.Counted.{Counted}
use Rattle.ua_lattice.specs.Lattices.{by_blocks}

-- the partition and how many blocks it has
abbrev pub IsCounted : Counted → Type 0
IsCounted c = c.blocks.0 ≡ block_count c.leaders.items

abbrev pub partitions_of : List Counted → List Partition
partitions_of list = map (λ (c : Counted). c.leaders.items) list

-- the same partitions, each once, in order
pub record IsArranged (rows list : List Partition) : Type 0 where
  pub permutation : IsPermutation rows list
  pub in_order : IsStrictlySortedBy by_blocks list
