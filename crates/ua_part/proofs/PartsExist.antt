-- Blocks in which each number stands once are those of a partition.
use Rattle.std.proofs.Common.{◌≡◌, ◌⊎◌, inl, inr, ⊎_elim, ℕ, zero, suc, ◌==◌, ◌<◌, ◌≤◌, Bool, true, false, ◌||◌, if◌then◌else◌, List, [], ◌∷◌, ◌++◌, length, map, refl, sym, ap, ◌∙◌, subst, arith}
use Rattle.std.specs.Prelude.{Contains, slice_index, slice_index_or}
use Rattle.std.specs.List.{AllByRecursion, concat, list_any, range_with_len}
use Rattle.std.proofs.lemmas.Bool.{false≢true, cases_lt}
use Rattle.std.proofs.lemmas.Bool.Decides.{nat_tests}
use Rattle.std.proofs.lemmas.List.Elements.{Contains-append_cases}
use Rattle.std.proofs.lemmas.List.FromFn.{get_or-map-range_with_len, length-map-range_with_len}
use Rattle.ua_table.proofs.Counts.{once_in, once_within, Contains-times}
use Rattle.ua_table.proofs.Lists.{Contains-head, Contains-tail, Contains-cases, Contains-none}
use Rattle.ua_part.specs.Partitions.{Partition, IsPartition, SameBlock, IsByLabels}
use Rattle.ua_part.specs.Blocks.{AreBlocks, HoldsBoth, HasBlocks}
use Rattle.ua_part.proofs.MarkLaws.{times_in_concat, one_block}

-- ---- places of values

-- the first place at which the value stands
abbrev pub first_at : List ℕ → ℕ → ℕ
first_at [] v = 0
first_at (x ∷ xs) v = if x == v then 0 else suc (first_at xs v)

record IsFirst (xs : List ℕ) (a k : ℕ) : Type 0 where
  low : k ≤ a
  same : slice_index xs k ≡ slice_index xs a

first_is : (xs : List ℕ) (a : ℕ) → a < length xs → IsFirst xs a (first_at xs (slice_index xs a))
first_is [] a l = absurd (omega (arith, l))
first_is (x ∷ xs) zero l = by (x == x) refl
  where
    by : (b : Bool) → (x == x) ≡ b → IsFirst (x ∷ xs) 0 (if b then 0 else suc (first_at xs x))
    by true e = record { low = omega arith; same = refl }
    by false e = absurd (grind (arith, nat_tests, e))
first_is (x ∷ xs) (suc a) l = by (first_is xs a (omega (arith, l))) (x == slice_index xs a) refl
  where
    by : IsFirst xs a (first_at xs (slice_index xs a)) → (b : Bool) → (x == slice_index xs a) ≡ b → IsFirst (x ∷ xs) (suc a) (if b then 0 else suc (first_at xs (slice_index xs a)))
    by r true e = record { low = omega arith; same = grind (arith, nat_tests, e) }
    by r false e = record { low = (let n = r.low in omega (arith, n)); same = r.same }

-- ---- the partition by labels

abbrev pub by_first : List ℕ → Partition
by_first labels = map (λ a. first_at labels (slice_index labels a)) (range_with_len 0 (length labels))

by_first_at : (labels : List ℕ) (a : ℕ) → a < length labels → slice_index (by_first labels) a ≡ first_at labels (slice_index labels a)
by_first_at labels a l = get_or-map-range_with_len (λ a. first_at labels (slice_index labels a)) 0 (length labels) a a 0 l (omega arith)

pub by_labels_exists : (labels : List ℕ) → IsByLabels labels (by_first labels)
by_labels_exists labels = record {
  partition = record { low = λ a l. low a (within a l); least = λ a l. least a (within a l) };
  size = count;
  relates = λ a b. (to a b, from a b);
}
  where
    count : length (by_first labels) ≡ length labels
    count = length-map-range_with_len (λ a. first_at labels (slice_index labels a)) 0 (length labels)

    within : (a : ℕ) → a < length (by_first labels) → a < length labels
    within a l = omega (arith, l, count)

    low : (a : ℕ) → a < length labels → slice_index (by_first labels) a ≤ a
    low a l = let e = by_first_at labels a l in let f = (first_is labels a l).low in omega (arith, e, f)

    same_label : (a : ℕ) → a < length labels → slice_index labels (slice_index (by_first labels) a) ≡ slice_index labels a
    same_label a l = ap (slice_index labels) (by_first_at labels a l) ∙ (first_is labels a l).same

    least : (a : ℕ) → a < length labels → slice_index (by_first labels) (slice_index (by_first labels) a) ≡ slice_index (by_first labels) a
    least a l =
        let n = low a l in
        by_first_at labels (slice_index (by_first labels) a) (omega (arith, l, n)) ∙ ap (first_at labels) (same_label a l) ∙ sym (by_first_at labels a l)

    to : (a b : ℕ) → SameBlock (by_first labels) a b → SameBlock labels a b
    to a b s =
        let l = within a s.left in
        let r = within b s.right in
        record { left = l; right = r; same = sym (same_label a l) ∙ ap (slice_index labels) s.same ∙ same_label b r }

    from : (a b : ℕ) → SameBlock labels a b → SameBlock (by_first labels) a b
    from a b s =
        let l = s.left in
        let r = s.right in
        record { left = omega (arith, l, count); right = omega (arith, r, count); same = by_first_at labels a l ∙ ap (first_at labels) s.same ∙ sym (by_first_at labels b r) }

-- ---- the place of the block of a number

abbrev contains : List ℕ → ℕ → Bool
contains b a = list_any (λ x. x == a) b

in_list : (b : List ℕ) (a : ℕ) → contains b a ≡ true → Contains b a
in_list [] a e = absurd (false≢true e)
in_list (x ∷ xs) a e = by (in_list xs a) (x == a) refl e
  where
    by : (contains xs a ≡ true → Contains xs a) → (t : Bool) → (x == a) ≡ t → (t || contains xs a) ≡ true → Contains (x ∷ xs) a
    by rest true is h = let same : x ≡ a = grind (arith, nat_tests, is) in subst (Contains (x ∷ xs)) same (Contains-head x xs)
    by rest false is h = Contains-tail x a xs (rest h)

not_in_list : (b : List ℕ) (a : ℕ) → contains b a ≡ false → Contains b a → ⊥
not_in_list [] a e c = absurd (let n = Contains-none a c in n)
not_in_list (x ∷ xs) a e c = by (not_in_list xs a) (x == a) refl e
  where
    by : (contains xs a ≡ false → Contains xs a → ⊥) → (t : Bool) → (x == a) ≡ t → (t || contains xs a) ≡ false → ⊥
    by rest true is h = absurd (false≢true (sym h))
    by rest false is h = ⊎_elim (λ same. absurd (grind (arith, nat_tests, is, same))) (rest h) (Contains-cases x a xs c)

-- the first block that has the number
abbrev block_place : List (List ℕ) → ℕ → ℕ
block_place [] a = 0
block_place (b ∷ bs) a = if contains b a then 0 else suc (block_place bs a)

record IsPlaced (blocks : List (List ℕ)) (a k : ℕ) : Type 0 where
  within : k < length blocks
  there : Contains (slice_index_or blocks k []) a

placed : (blocks : List (List ℕ)) (a : ℕ) → Contains (concat blocks) a → IsPlaced blocks a (block_place blocks a)
placed [] a c = absurd (Contains-none a c)
placed (b ∷ bs) a c = by (placed bs a) (contains b a) refl
  where
    by : (Contains (concat bs) a → IsPlaced bs a (block_place bs a)) → (t : Bool) → contains b a ≡ t → IsPlaced (b ∷ bs) a (if t then 0 else suc (block_place bs a))
    by rest true e = record { within = omega arith; there = in_list b a e }
    by rest false e =
        let r = rest (⊎_elim (λ here. absurd (not_in_list b a e here)) (λ later. later) (Contains-append_cases b (concat bs) a c)) in
        record { within = (let w = r.within in omega (arith, w)); there = r.there }

-- ---- the partition with these blocks

module _ (n : ℕ) (blocks : List (List ℕ)) (are : AreBlocks n blocks) where
  abbrev labels : List ℕ
  labels = map (block_place blocks) (range_with_len 0 n)

  count : length labels ≡ n
  count = length-map-range_with_len (block_place blocks) 0 n

  label_at : (a : ℕ) → a < n → slice_index labels a ≡ block_place blocks a
  label_at a l = get_or-map-range_with_len (block_place blocks) 0 n a a 0 l (omega arith)

  stands : (a : ℕ) → a < n → IsPlaced blocks a (block_place blocks a)
  stands a l = placed blocks a (Contains-times a (concat blocks) (let one = are.once a in let in' = once_in n a l in omega (arith, one, in')))

  abbrev pub part_with_blocks : Partition
  part_with_blocks = by_first labels

  by : IsByLabels labels part_with_blocks
  by = by_labels_exists labels

  below : (a k : ℕ) → k < length blocks → Contains (slice_index_or blocks k []) a → a < n
  below a k w c = once_within n a (let one = are.once a in let some = times_in_concat blocks k a w c in omega (arith, one, some))

  -- the block of a number is the one that has it
  its_place : (a k : ℕ) → k < length blocks → Contains (slice_index_or blocks k []) a → block_place blocks a ≡ k
  its_place a k w c =
      let l = below a k w c in
      let s = stands a l in
      one_block blocks a (block_place blocks a) k (let one = are.once a in let in' = once_in n a l in omega (arith, one, in')) s.within w s.there c

  to : (a b : ℕ) → SameBlock labels a b → HoldsBoth blocks a b
  to a b s =
      let l = s.left in let r = s.right in
      let la : a < n = omega (arith, l, count) in
      let lb : b < n = omega (arith, r, count) in
      let same : block_place blocks b ≡ block_place blocks a = sym (label_at b lb) ∙ sym s.same ∙ label_at a la in
      let sa = stands a la in
      record { place = block_place blocks a; within = sa.within; left = sa.there; right = subst (λ k. Contains (slice_index_or blocks k []) b) same (stands b lb).there }

  from : (a b : ℕ) → HoldsBoth blocks a b → SameBlock labels a b
  from a b h =
      let la = below a h.place h.within h.left in
      let lb = below b h.place h.within h.right in
      record {
        left = omega (arith, la, count);
        right = omega (arith, lb, count);
        same = label_at a la ∙ its_place a h.place h.within h.left ∙ sym (its_place b h.place h.within h.right) ∙ sym (label_at b lb);
      }

  pub part_has_blocks : HasBlocks blocks part_with_blocks
  part_has_blocks = record {
    partition = by.partition;
    cover = subst (λ m. AreBlocks m blocks) (sym (by.size ∙ count)) are;
    relates = λ a b. (λ s. to a b ((by.relates a b).0 s), λ h. (by.relates a b).1 (from a b h));
  }

  pub part_size : length part_with_blocks ≡ n
  part_size = by.size ∙ count
