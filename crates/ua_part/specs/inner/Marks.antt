-- What is marked while blocks are read.
use Rattle.std.specs.Prelude.{◌≡◌, ◌≢◌, ℕ, ◌+◌, ◌<◌, ◌≤◌, List, [], length, slice_index, slice_index_or, Contains}
use Rattle.std.specs.List.{AllByRecursion, concat}
use Rattle.ua_table.specs.Counting.{times}
use Rattle.ua_part.specs.Marks.{marked}

-- what was marked before stays, and each of these members is newly marked so, once
pub record AreMarked (old new : List ℕ) (members : List ℕ) (mark : ℕ) : Type 0 where
  pub size : length new ≡ length old
  pub kept : (m : ℕ) → slice_index old m ≢ length old → slice_index new m ≡ slice_index old m
  pub marks : (m : ℕ) → Contains members m → slice_index new m ≡ mark
  pub once : (m : ℕ) → m < length old → times m members + marked old m ≡ marked new m

-- a member stands among these or was marked, more than once in all
pub record IsRepeated (old : List ℕ) (members : List ℕ) : Type 0 where
  pub member : ℕ
  pub within : member < length old
  pub twice : 2 ≤ times member members + marked old member

-- each member of these blocks is marked with the first member of its block, once
pub record AreMarkedBlocks (size : ℕ) (blocks : List (List ℕ)) (marks : List ℕ) : Type 0 where
  pub size_is : length marks ≡ size
  pub filled : AllByRecursion (λ (block : List ℕ). 0 < length block) blocks
  pub marks_are : (k m : ℕ) → k < length blocks → Contains (slice_index_or blocks k []) m → slice_index marks m ≡ slice_index (slice_index_or blocks k []) 0
  pub once : (m : ℕ) → m < size → times m (concat blocks) ≡ marked marks m
