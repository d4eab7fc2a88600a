-- The order by number of blocks and entries: what lies strictly above has fewer blocks.
use Rattle.std.proofs.Common.{◌≡◌, ◌≢◌, ℕ, ◌+◌, ◌<◌, ◌≤◌, Bool, true, false, cond, List, [], ◌∷◌, length, take, get_or, refl, sym, ap, ◌∙◌, subst, arith, Ordering, ⊎_elim, nat_eq}
use Rattle.std.specs.Prelude.{Contains, slice_index, ◌==◌}
use Rattle.std.specs.List.{AllByRecursion, IsDistinct, filter, range_with_len}
use Rattle.std.specs.List.Sorted.{IsSorted, IsStrictlySortedBy}
use Rattle.std.specs.Bool.{Decides}
use Rattle.std.specs.Cmp.{IsTotalOrder, on_total, back_total, then_total, nat_cmp_total, tied_itself, Equal-is, eq_by_cmp_equiv}
use Rattle.std.specs.Cmp.Lexicographic.{slice_cmp, nat_list_cmp_total, pointwise, bytes_decides}
use Rattle.std.specs.Ordering.{nat_cmp, ordering_then, ordering_reverse, is_lt, is_eq, eq_by_cmp}
use Rattle.std.specs.declared.cmp.Ordering.TheVariants.{Less, Equal, Greater}
use Rattle.std.proofs.lemmas.Bool.{true≢false, cases_lt, eq-eqb, eqb-true}
use Rattle.std.proofs.lemmas.Cmp.{ranked}
use Rattle.std.proofs.lemmas.Map.Lookups.{exact_bytes}
use Rattle.std.proofs.lemmas.Map.Keys.{sorted_from_all_adjacent, apart_from_distinct, Less-from_sorted, IsDistinct-from_sorted}
use Rattle.std.proofs.lemmas.Map.Made.{length-le_from_is_member, is_member-Decides}
use Rattle.std.proofs.lemmas.List.{length-map, get_or-map, length-take-le, get_or-take, get_or_default}
use Rattle.std.proofs.lemmas.List.FromFn.{length-range_with_len, get_or-range_with_len}
use Rattle.std.proofs.lemmas.List.Elements.{All-from_get_or, recursion_from_All, All-from_recursion}
use Rattle.ua_part.specs.Partitions.{Partition, IsPartition, LiesBelow}
use Rattle.ua_part.specs.Blocks.{block_count}
use Rattle.ua_part.proofs.PartitionLaws.{leaders_from_below, below_from_leaders, below_both}
use Rattle.ua_lattice.specs.declared.ordering.Counted.{Counted}
use Rattle.ua_lattice.specs.Lattices.{by_blocks, at}
use Rattle.ua_lattice.specs.inner.Ordering.{IsCounted, partitions_of}
use Rattle.ua_lattice.specs.inner.Places.{AreOrdered}

-- ---- the order is total

pub by_blocks_total : IsTotalOrder by_blocks
by_blocks_total = then_total (on_total block_count (back_total nat_cmp_total)) nat_list_cmp_total

then_equal : (o rest : Ordering) → ordering_then o rest ≡ Equal → rest ≡ Equal
then_equal Less rest e = cc
then_equal Equal rest e = e
then_equal Greater rest e = cc

-- partitions that tie are the same
pub same_from_tie : (p q : Partition) → by_blocks p q ≡ Equal → p ≡ q
same_from_tie p q e = exact_bytes p q (then_equal (nat_cmp (block_count q) (block_count p)) (slice_cmp nat_cmp p q) e)

less_from : (o : Ordering) → is_lt (ordering_reverse o) ≡ false → o ≢ Equal → o ≡ Less
less_from Less h n = refl
less_from Equal h n = absurd (n refl)
less_from Greater h n = absurd (true≢false h)

-- what does not fall and differs rises
rises : (p q : Partition) → is_lt (by_blocks q p) ≡ false → p ≢ q → by_blocks p q ≡ Less
rises p q h n =
    less_from (by_blocks p q)
    (ap is_lt (sym (by_blocks_total.antisymm q p)) ∙ h)
    (λ e. n (same_from_tie p q e))

-- different partitions that are sorted rise
pub strictly_sorted : (ps : List Partition) → IsDistinct (pointwise nat_eq) ps → IsSorted by_blocks ps → IsStrictlySortedBy by_blocks ps
strictly_sorted ps different sorted =
    sorted_from_all_adjacent by_blocks_total ps [] (λ k h.
    rises (get_or ps k []) (get_or ps (k + 1) []) (sorted k [] (omega arith) h)
    (λ e.
    let no = apart_from_distinct (pointwise nat_eq) ps k (k + 1) [] different (omega arith) h in
    let yes = (bytes_decides (get_or ps k []) (get_or ps (k + 1) [])).1 e in
    true≢false (sym yes ∙ no)))

-- ---- how many there are

abbrev same : Partition → Partition → Bool
same = eq_by_cmp by_blocks

same_Decides : (p q : Partition) → Decides (same p q) (p ≡ q)
same_Decides p q = (
  (λ t. same_from_tie p q ((Equal-is (by_blocks p q)).0 t)),
  (λ e. subst (λ (r : Partition). same p r ≡ true) e (ap is_eq (tied_itself by_blocks_total p))),
)

-- an ordered list is no longer than a list that has each of its members
pub length_from_members : (ps qs : List Partition) → IsStrictlySortedBy by_blocks ps → ((p : Partition) → Contains ps p → Contains qs p) → length ps ≤ length qs
length_from_members ps qs up h =
    length-le_from_is_member (eq_by_cmp_equiv by_blocks_total) ps qs (IsDistinct-from_sorted by_blocks ps up)
    (λ p t. (is_member-Decides same_Decides qs p).1 (h p ((is_member-Decides same_Decides ps p).0 t)))

-- what is sorted by a test that reads the count and the partition
pub sorted_partitions : (cmp : Counted → Counted → Ordering)
    → ((a b : Counted) → IsCounted a → IsCounted b → cmp a b ≡ by_blocks a.leaders.items b.leaders.items) → (list : List Counted)
    → AllByRecursion IsCounted list → IsSorted cmp list → IsSorted by_blocks (partitions_of list)
sorted_partitions cmp same [] counts s = λ k d l h. absurd (omega (arith, h))
sorted_partitions cmp same (x ∷ xs) counts s = λ k d l h.
    let each = All-from_recursion IsCounted (x ∷ xs) counts in
    let high : k + 1 < length (x ∷ xs) = omega (arith, h, length-map (x ∷ xs) (λ (c : Counted). c.leaders.items)) in
    let low : k < length (x ∷ xs) = omega (arith, high) in
    let a = get_or-map (λ (c : Counted). c.leaders.items) (x ∷ xs) (k + 1) x d high in
    let b = get_or-map (λ (c : Counted). c.leaders.items) (x ∷ xs) k x d low in
    (λ i. is_lt (by_blocks (a i) (b i))) ∙ ap is_lt (sym (same (get_or (x ∷ xs) (k + 1) x) (get_or (x ∷ xs) k x) (each (k + 1) x high) (each k x low))) ∙ s k x l high

-- ---- fewer pass a stronger test

-- what passes g passes f
abbrev IsStronger : (ℕ → Bool) → (ℕ → Bool) → List ℕ → Type 0
IsStronger g f xs = AllByRecursion (λ x. g x ≡ true → f x ≡ true) xs

fewer_step : (b c : Bool) (x : ℕ) (fs gs : List ℕ) → (c ≡ true → b ≡ true) → length gs ≤ length fs → length (cond c (x ∷ gs) gs) ≤ length (cond b (x ∷ fs) fs)
fewer_step true true x fs gs h k = omega (arith, k)
fewer_step true false x fs gs h k = omega (arith, k)
fewer_step false true x fs gs h k = absurd (true≢false (sym (h refl)))
fewer_step false false x fs gs h k = k

fewer_pass : (f g : ℕ → Bool) (xs : List ℕ) → IsStronger g f xs → length (filter g xs) ≤ length (filter f xs)
fewer_pass f g [] h = omega arith
fewer_pass f g (x ∷ xs) h = fewer_step (f x) (g x) x (filter f xs) (filter g xs) h.0 (fewer_pass f g xs h.1)

as_many_step : (b c : Bool) (x : ℕ) (fs gs : List ℕ) → (c ≡ true → b ≡ true) → length gs ≤ length fs → length (cond b (x ∷ fs) fs) ≤ length (cond c (x ∷ gs) gs) → (b ≡ true → c ≡ true) × (length fs ≤ length gs)
as_many_step true true x fs gs h k l = (λ _. refl, omega (arith, l))
as_many_step true false x fs gs h k l = absurd (omega (arith, k, l))
as_many_step false true x fs gs h k l = absurd (true≢false (sym (h refl)))
as_many_step false false x fs gs h k l = (λ e. e, l)

-- where as many pass it, the same pass it
as_many_pass : (f g : ℕ → Bool) (xs : List ℕ) → IsStronger g f xs → length (filter f xs) ≤ length (filter g xs) → IsStronger f g xs
as_many_pass f g [] h l = tt
as_many_pass f g (x ∷ xs) h l =
    let s = as_many_step (f x) (g x) x (filter f xs) (filter g xs) h.0 (fewer_pass f g xs h.1) l in
    (s.0, as_many_pass f g xs h.1 s.1)

-- ---- what lies above has no more blocks

abbrev leads : Partition → ℕ → Bool
leads p a = slice_index p a == a

module _ (p q : Partition) (hp : IsPartition p) (hq : IsPartition q) (same_size : length p ≡ length q) (below : LiesBelow p q) where
  -- a leader of q leads its block of p
  leader_down : (a : ℕ) → a < length p → slice_index q a ≡ a → slice_index p a ≡ a
  leader_down a k e =
      let l = hp.low a k in
      let up = leaders_from_below p q hp below a k in
      let m = hq.low (slice_index p a) (omega (arith, l, k, same_size)) in
      omega (arith, l, up, m, e)

  stronger : IsStronger (leads q) (leads p) (range_with_len 0 (length p))
  stronger = recursion_from_All (λ x. leads q x ≡ true → leads p x ≡ true) (range_with_len 0 (length p)) (All-from_get_or (λ x. leads q x ≡ true → leads p x ≡ true) (range_with_len 0 (length p)) 0 each)
    where
      each : (i : ℕ) → i < length (range_with_len 0 (length p)) → leads q (get_or (range_with_len 0 (length p)) i 0) ≡ true → leads p (get_or (range_with_len 0 (length p)) i 0) ≡ true
      each i w t =
          let low : i < length p = omega (arith, w, length-range_with_len 0 (length p)) in
          let is = get_or-range_with_len 0 (length p) i 0 low in
          let a = get_or (range_with_len 0 (length p)) i 0 in
          eq-eqb (slice_index p a) a (leader_down a (omega (arith, low, is)) (eqb-true (slice_index q a) a t))

  counted_q : block_count q ≡ length (filter (leads q) (range_with_len 0 (length p)))
  counted_q = ap (λ n. length (filter (leads q) (range_with_len 0 n))) (sym same_size)

  pub fewer_blocks : block_count q ≤ block_count p
  fewer_blocks = let e = counted_q in let h = fewer_pass (leads p) (leads q) (range_with_len 0 (length p)) stronger in omega (arith, e, h)

  -- as many blocks are the same blocks
  pub as_many_blocks : block_count p ≤ block_count q → p ≡ q
  as_many_blocks h = below_both p q hp hq below (below_from_leaders q p (sym same_size) each)
    where
      back : IsStronger (leads p) (leads q) (range_with_len 0 (length p))
      back = as_many_pass (leads p) (leads q) (range_with_len 0 (length p)) stronger (let e = counted_q in omega (arith, e, h))

      leader_up : (b : ℕ) → b < length p → slice_index p b ≡ b → slice_index q b ≡ b
      leader_up b k e =
          let all = All-from_recursion (λ x. leads p x ≡ true → leads q x ≡ true) (range_with_len 0 (length p)) back in
          let is = get_or-range_with_len 0 (length p) b 0 k in
          let there = all b 0 (omega (arith, k, length-range_with_len 0 (length p))) in
          let n : get_or (range_with_len 0 (length p)) b 0 ≡ b = omega (arith, is) in
          eqb-true (slice_index q b) b (subst (λ x. leads p x ≡ true → leads q x ≡ true) n there (eq-eqb (slice_index p b) b e))

      -- the leader of a in p leads in q too
      one_leader : (a : ℕ) → a < length p → slice_index q a ≡ slice_index p a
      one_leader a k =
          let b = slice_index p a in
          let low = hp.low a k in
          leaders_from_below p q hp below a k ∙ leader_up b (omega (arith, low, k)) (hp.least a k)

      each : (a : ℕ) → a < length q → slice_index p a ≡ slice_index p (slice_index q a)
      each a k' =
          let k : a < length p = omega (arith, k', same_size) in
          sym (hp.least a k) ∙ ap (slice_index p) (sym (one_leader a k))

-- ---- places

module _ (list : List Partition) (h : AreOrdered list) where
  pub partition_at : (i : ℕ) → i < length list → IsPartition (at list i)
  partition_at i w = All-from_recursion IsPartition list h.partitions i [] w

  pub size_at : (i : ℕ) → i < length list → length (at list i) ≡ h.size
  size_at i w = All-from_recursion (λ (p : Partition). length p ≡ h.size) list h.sizes i [] w

  -- a lower partition does not stand behind
  pub place_up : (i j : ℕ) → i < length list → j < length list → LiesBelow (at list i) (at list j) → i ≤ j
  place_up i j wi wj below = ⊎_elim (λ less. absurd (none less)) (λ more. more) (cases_lt j i)
    where
      none : j < i → ⊥
      none less =
          let p = at list i in
          let q = at list j in
          let rise = Less-from_sorted by_blocks list j i [] h.in_order less wi in
          let same_size : length p ≡ length q = size_at i wi ∙ sym (size_at j wj) in
          let fewer = fewer_blocks p q (partition_at i wi) (partition_at j wj) same_size below in
          let equal = as_many_blocks p q (partition_at i wi) (partition_at j wj) same_size below (no_more (nat_cmp (block_count p) (block_count q)) (block_count p) (block_count q) refl (slice_cmp nat_cmp q p) rise) in
          irreflexive p (subst (λ r. by_blocks r p ≡ Less) (sym equal) rise)
        where
          irreflexive : (p : Partition) → by_blocks p p ≡ Less → ⊥
          irreflexive p e = turned (by_blocks p p) (by_blocks_total.antisymm p p) e
            where
              turned : (o : Ordering) → o ≡ ordering_reverse o → o ≡ Less → ⊥
              turned Less e l = absurd (true≢false (ap is_lt e))
              turned Equal e l = absurd (true≢false (sym (ap is_lt l)))
              turned Greater e l = absurd (true≢false (sym (ap is_lt l)))

          no_more : (o : Ordering) (m n : ℕ) → o ≡ nat_cmp m n → (rest : Ordering) → ordering_then o rest ≡ Less → m ≤ n
          no_more Less m n e rest l = let r = ranked m n Less e in omega (arith, r)
          no_more Equal m n e rest l = let r = ranked m n Equal e in omega (arith, r)
          no_more Greater m n e rest l = absurd (true≢false (sym (ap is_lt l)))

  pub same_size_at : (i j : ℕ) → i < length list → j < length list → length (at list i) ≡ length (at list j)
  same_size_at i j wi wj = size_at i wi ∙ sym (size_at j wj)

  -- equal partitions stand at equal places
  pub same_place : (i j : ℕ) → i < length list → j < length list → at list i ≡ at list j → i ≡ j
  same_place i j wi wj e =
      let up = place_up i j wi wj (subst (LiesBelow (at list i)) e (λ a b s. s)) in
      let down = place_up j i wj wi (subst (LiesBelow (at list j)) (sym e) (λ a b s. s)) in
      omega (arith, up, down)

  -- what stands at a place does not stand before it
  pub not_before : (i : ℕ) (p : Partition) → i < length list → p ≡ at list i → Contains (take i list) p → ⊥
  not_before i p wi is c =
      let long = length-take-le i list (omega (arith, wi)) in
      let low : c.0 < i = (let w = c.1 in omega (arith, w, long)) in
      let there : at list c.0 ≡ p = sym (get_or-take i list c.0 [] low) ∙ get_or_default (take i list) c.0 [] p c.1 ∙ c.2 in
      let same = same_place c.0 i (omega (arith, low, wi)) wi (there ∙ is) in
      omega (arith, low, same)
