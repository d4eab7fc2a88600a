-- Partitions as they are written: their blocks, and the places where they fail.
use Rattle.std.specs.Prelude.{ℕ, ◌==◌, ◌&&◌, nat_lt, Bool, List, length, map}
use Rattle.std.specs.List.{concat, list_all}
use Rattle.ua_table.specs.Counting.{times, numbers_below}
use Rattle.ua_text.specs.declared.named.Block.{Block}
use Rattle.ua_operands.specs.declared.written.Number.{Number}
use Rattle.ua_operands.specs.declared.written.PartText.{PartText}
use Rattle.ua_reply.specs.Checks.{Checks, range_at, shape_at, unless, ◌and◌, all_in}

-- the numbers of a block
abbrev pub members_of : List Number → List ℕ
members_of block = map (λ (n : Number). n.value) block

-- the numbers, block by block
abbrev pub blocks_of : PartText → List (List ℕ)
blocks_of p = map members_of p.blocks

-- each number below n is in the list once, and no other is
abbrev pub is_each_once : ℕ → List ℕ → Bool
is_each_once n ms = list_all (λ k. times k ms == 1) (numbers_below n) && list_all (λ m. nat_lt m n) ms

-- no block is empty, and each number below n is in one of them, once
abbrev pub are_blocks : ℕ → List (List ℕ) → Bool
are_blocks n blocks = list_all (λ (b : List ℕ). nat_lt 0 (length b)) blocks && is_each_once n (concat blocks)

-- a number is below the size
abbrev pub member_in : Block → Number → Checks
member_in k n = range_at (unless (nat_lt n.value k.algebra.size) n.place)

-- each number of a block is below the size
abbrev pub block_in : Block → List Number → Checks
block_in k block = all_in (member_in k) block

-- the blocks of a partition of the elements
abbrev pub part_in : Block → PartText → Checks
part_in k p = all_in (block_in k) p.blocks and shape_at (unless (are_blocks k.algebra.size (blocks_of p)) p.place)
