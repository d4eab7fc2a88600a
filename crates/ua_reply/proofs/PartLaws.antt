-- Which lists of blocks make a partition.
use Rattle.std.proofs.Common.{◌≡◌, ℕ, ◌<◌, ◌≤◌, ◌==◌, ◌&&◌, Bool, true, false, List, [], ◌∷◌, length, refl, subst, inl, inr, arith}
use Rattle.std.specs.Prelude.{nat_lt, nat_le, find, cond, Some, Contains}
use Rattle.std.specs.List.{AllByRecursion, concat, list_all}
use Rattle.std.proofs.lemmas.Bool.{and_parts, cases_lt}
use Rattle.std.proofs.lemmas.Bool.Decides.{nat_tests}
use Rattle.ua_table.specs.Counting.{times, EachOnceBelow, numbers_below}
use Rattle.ua_table.proofs.Lists.{all_at, all_from_contains}
use Rattle.ua_table.proofs.Counts.{once_in, once_out, Contains-times, each_once-numbers_below, each_once-below}
use Rattle.ua_part.specs.Blocks.{AreBlocks, first_beyond}
use Rattle.ua_text.specs.declared.named.Block.{Block}
use Rattle.ua_operands.specs.declared.written.PartText.{PartText}
use Rattle.ua_reply.specs.Checks.{unless, shape_at, all_in, Passes}
use Rattle.ua_reply.specs.Parts.{is_each_once, are_blocks, blocks_of, block_in, part_in}
use Rattle.ua_reply.proofs.CheckLaws.{parts_pass, known_step}

module _ {X : Type 0} (p : X → Bool) where
  each_passes : (xs : List X) → list_all p xs ≡ true → AllByRecursion (λ x. p x ≡ true) xs
  each_passes [] h = tt
  each_passes (x ∷ xs) h = let both = and_parts (p x) (list_all p xs) h in (both.0, each_passes xs both.1)

  all_pass : (xs : List X) → AllByRecursion (λ x. p x ≡ true) xs → list_all p xs ≡ true
  all_pass [] h = refl
  all_pass (x ∷ xs) h = let here = h.0 in let rest = all_pass xs h.1 in λ i. here i && rest i

in_numbers : (n k : ℕ) → k < n → Contains (numbers_below n) k
in_numbers n k low = (each_once-below n (numbers_below n) (each_once-numbers_below n) k).1 low

-- the test tells whether each number below n is there once, and no other
once_true : (n : ℕ) (ms : List ℕ) → is_each_once n ms ≡ true → EachOnceBelow n ms
once_true n ms h k =
    let both = and_parts (list_all (λ k. times k ms == 1) (numbers_below n)) (list_all (λ m. nat_lt m n) ms) h in
    elim (cases_lt k n) [
      | inl low ↦
          let one = all_at (λ k. (times k ms == 1) ≡ true) (numbers_below n) k (each_passes (λ k. times k ms == 1) (numbers_below n) both.0) (in_numbers n k low) in
          let is = once_in n k low in
          grind (arith, nat_tests)
      | inr high ↦
          let is = once_out n k high in
          let none = λ (some : 0 < times k ms). all_at (λ m. nat_lt m n ≡ true) ms k (each_passes (λ m. nat_lt m n) ms both.1) (Contains-times k ms some) in
          at_none k ms n is none high
    ]
  where
    at_none : (k : ℕ) (ms : List ℕ) (n : ℕ) {b : ℕ} → b ≡ 0 → (0 < times k ms → nat_lt k n ≡ true) → n ≤ k → times k ms ≡ b
    at_none k ms n {b} is none high = elim (cases_lt 0 (times k ms)) [
      | inl some ↦ let low = none some in grind (arith, nat_tests)
      | inr out ↦ omega (arith, is, out)
    ]

once_there : (n : ℕ) (ms : List ℕ) → EachOnceBelow n ms → is_each_once n ms ≡ true
once_there n ms once =
    let first = all_pass (λ k. times k ms == 1) (numbers_below n) (all_from_contains (λ k. (times k ms == 1) ≡ true) (numbers_below n) (λ k c.
    let low = (each_once-below n (numbers_below n) (each_once-numbers_below n) k).0 c in
    let is = once_in n k low in
    let e = once k in
    grind (arith, nat_tests))) in
    let second = all_pass (λ m. nat_lt m n) ms (all_from_contains (λ m. nat_lt m n ≡ true) ms (λ m c.
    let low = (each_once-below n ms once m).0 c in
    grind (arith, nat_tests))) in
    λ i. first i && second i

-- the test tells whether these are the blocks of a partition
pub blocks_true : (n : ℕ) (blocks : List (List ℕ)) → are_blocks n blocks ≡ true → AreBlocks n blocks
blocks_true n blocks h =
    let both = and_parts (list_all (λ (b : List ℕ). nat_lt 0 (length b)) blocks) (is_each_once n (concat blocks)) h in
    record {
      filled = all_from_contains (λ (b : List ℕ). 0 < length b) blocks (λ b c.
          let some = all_at (λ (b : List ℕ). nat_lt 0 (length b) ≡ true) blocks b (each_passes (λ (b : List ℕ). nat_lt 0 (length b)) blocks both.0) c in
          grind (arith, nat_tests));
      once = once_true n (concat blocks) both.1;
    }

pub blocks_there : (n : ℕ) (blocks : List (List ℕ)) → AreBlocks n blocks → are_blocks n blocks ≡ true
blocks_there n blocks h =
    let filled = all_pass (λ (b : List ℕ). nat_lt 0 (length b)) blocks (all_from_contains (λ (b : List ℕ). nat_lt 0 (length b) ≡ true) blocks (λ b c.
    let some = all_at (λ (b : List ℕ). 0 < length b) blocks b h.filled c in
    grind (arith, nat_tests))) in
    let once = once_there n (concat blocks) h.once in
    λ i. filled i && once i

pub blocks_false : (n : ℕ) (blocks : List (List ℕ)) → (AreBlocks n blocks → ⊥) → are_blocks n blocks ≡ false
blocks_false n blocks lacks = by (are_blocks n blocks) refl
  where
    by : (b : Bool) → are_blocks n blocks ≡ b → b ≡ false
    by false e = refl
    by true e = absurd (lacks (blocks_true n blocks e))

-- none is found where all are below
none_beyond : (n m : ℕ) (ms : List ℕ) → AllByRecursion (λ m. nat_lt m n ≡ true) ms → find (λ m. nat_le n m) ms ≡ Some m → ⊥
none_beyond n m [] h e = cc
none_beyond n m (x ∷ ms) h e =
    let low = h.0 in
    let above : nat_le n x ≡ false = grind (arith, nat_tests) in
    none_beyond n m ms h.1 (subst (λ b. cond b (Some x) (find (λ m. nat_le n m) ms) ≡ Some m) above e)

pub blocks_beyond : (n m : ℕ) (blocks : List (List ℕ)) → first_beyond n blocks ≡ Some m → are_blocks n blocks ≡ false
blocks_beyond n m blocks e = by (are_blocks n blocks) refl
  where
    by : (b : Bool) → are_blocks n blocks ≡ b → b ≡ false
    by false f = refl
    by true f =
        let both = and_parts (list_all (λ (b : List ℕ). nat_lt 0 (length b)) blocks) (is_each_once n (concat blocks)) f in
        let once = and_parts (list_all (λ k. times k (concat blocks) == 1) (numbers_below n)) (list_all (λ m. nat_lt m n) (concat blocks)) both.1 in
        absurd (none_beyond n m (concat blocks) (each_passes (λ m. nat_lt m n) (concat blocks) once.1) e)

-- what passes are the blocks of a partition
pub part_blocks : (k : Block) (p : PartText) → Passes (part_in k p) → are_blocks k.algebra.size (blocks_of p) ≡ true
part_blocks k p h = known_step (are_blocks k.algebra.size (blocks_of p)) p.place (parts_pass (all_in (block_in k) p.blocks) (shape_at (unless (are_blocks k.algebra.size (blocks_of p)) p.place)) h).1.shape
