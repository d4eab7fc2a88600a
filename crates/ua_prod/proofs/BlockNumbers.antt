-- The numbers of the blocks of a partition.
use Rattle.std.proofs.Common.{◌≡◌, ℕ, zero, suc, ◌+◌, ◌-◌, ◌<◌, ◌≤◌, Bool, true, false, cond, [], ◌∷◌, length, map, sym, ap, ◌∙◌, subst, arith}
use Rattle.std.specs.Prelude.{slice_index, ◌==◌, Contains}
use Rattle.std.specs.List.{AllByRecursion, filter, range_with_len}
use Rattle.std.proofs.lemmas.Bool.{eq-eqb}
use Rattle.std.proofs.lemmas.List.{get_or_default}
use Rattle.ua_table.proofs.Lists.{all_append, all_weaker, all_map, all_from_contains}
use Rattle.ua_part.specs.Partitions.{Partition, IsPartition}
use Rattle.ua_part.specs.Blocks.{leaders}
use Rattle.ua_part.proofs.BlockLaws.{passed_more, counted_more}
use Rattle.ua_prod.specs.Constructions.{blocks_below}

module _ (p : Partition) where
  abbrev leads : ℕ → Bool
  leads k = slice_index p k == k

  -- a member more
  pub blocks_more : (x : ℕ) → slice_index p x ≡ x → blocks_below p (x + 1) ≡ blocks_below p x + 1
  blocks_more x is = counted_more leads x ∙ ap (λ b. blocks_below p x + cond b 1 0) (eq-eqb (slice_index p x) x is)

  at_most_one : (b : Bool) → cond b 1 0 ≤ 1
  at_most_one true = omega arith
  at_most_one false = omega arith

  pub blocks_few : (x : ℕ) → blocks_below p x ≤ x
  blocks_few zero = omega arith
  blocks_few (suc x) =
      let e : suc x ≡ x + 1 = omega arith in
      subst (λ y. blocks_below p y ≤ y) (sym e) (omega (arith, counted_more leads x, at_most_one (leads x), blocks_few x))

  blocks_grow : (x d : ℕ) → blocks_below p x ≤ blocks_below p (x + d)
  blocks_grow x zero = let e : x ≡ x + 0 = omega arith in subst (λ y. blocks_below p x ≤ blocks_below p y) e (omega arith)
  blocks_grow x (suc d) =
      let e : x + d + 1 ≡ x + suc d = omega arith in
      subst (λ y. blocks_below p x ≤ blocks_below p y) e (omega (arith, counted_more leads (x + d), blocks_grow x d))

  -- a leader's block has a number below that of all blocks
  pub block_number : (x : ℕ) → x < length p → slice_index p x ≡ x → blocks_below p x < length (leaders p)
  block_number x w is =
      let rest : x + 1 + (length p - (x + 1)) ≡ length p = omega (arith, w) in
      let grown = subst (λ y. blocks_below p (x + 1) ≤ blocks_below p y) rest (blocks_grow (x + 1) (length p - (x + 1))) in
      omega (arith, grown, blocks_more x is)

  leaders_below : (n : ℕ) → AllByRecursion (λ x. x < n) (filter leads (range_with_len 0 n))
  leaders_below zero = tt
  leaders_below (suc n) =
      let e : suc n ≡ n + 1 = omega arith in
      subst (λ m. AllByRecursion (λ x. x < m) (filter leads (range_with_len 0 m))) (sym e)
      (subst (AllByRecursion (λ x. x < n + 1)) (sym (passed_more leads n))
      (all_append (λ x. x < n + 1) (filter leads (range_with_len 0 n)) (cond (leads n) (n ∷ []) [])
      (all_weaker (λ x. x < n) (λ x. x < n + 1) (λ x w. omega (arith, w)) (filter leads (range_with_len 0 n)) (leaders_below n))
      (last (leads n))))
    where
      last : (b : Bool) → AllByRecursion (λ x. x < n + 1) (cond b (n ∷ []) [])
      last true = (omega arith, tt)
      last false = tt

  pub all_leaders_below : AllByRecursion (λ x. x < length p) (leaders p)
  all_leaders_below = leaders_below (length p)

  module _ (h : IsPartition p) where
    pub some_blocks : 0 < length p → 0 < length (leaders p)
    some_blocks w =
        let low = h.low 0 w in
        let is : slice_index p 0 ≡ 0 = omega (arith, low) in
        let number = block_number 0 w is in
        omega (arith, number)

    pub all_numbers : AllByRecursion (λ x. x < length (leaders p)) (map (blocks_below p) p)
    all_numbers = all_map (λ x. x < length (leaders p)) (blocks_below p) p (all_from_contains (λ x. blocks_below p x < length (leaders p)) p each)
      where
        each : (x : ℕ) → Contains p x → blocks_below p x < length (leaders p)
        each x c =
            let w = c.1 in
            let is : slice_index p c.0 ≡ x = get_or_default p c.0 0 x c.1 ∙ c.2 in
            let low = h.low c.0 c.1 in
            let own = h.least c.0 c.1 in
            block_number x (omega (arith, low, is, w)) (subst (λ y. slice_index p y ≡ y) is own)
