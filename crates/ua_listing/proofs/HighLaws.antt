-- Rows by height, from their heights by position.
use Rattle.std.proofs.Common.{◌≡◌, ◌≢◌, ◌⊎◌, inl, inr, ⊎_elim, ℕ, zero, suc, ◌+◌, ◌-◌, ◌<◌, ◌≤◌, true, false, List, [], ◌∷◌, ◌++◌, length, map, get_or, refl, sym, ap, ◌∙◌, subst, arith, Ordering}
use Rattle.std.specs.Prelude.{slice_index}
use Rattle.std.specs.List.Sorted.{IsPermutation, IsSorted}
use Rattle.std.specs.Cmp.{nat_cmp_is}
use Rattle.std.specs.Ordering.{nat_cmp, ordering_then, is_lt}
use Rattle.std.specs.declared.cmp.Ordering.TheVariants.{Less, Equal}
use Rattle.std.proofs.lemmas.Bool.{cases_lt}
use Rattle.std.proofs.lemmas.List.{length-map, get_or-map, map-append, get_or_default}
use Rattle.std.proofs.lemmas.List.Sorted.{IsPermutation-map, length_permutation, Contains-permutation, IsPermutation-sym}
use Rattle.ua_table.specs.Counting.{EachOnceBelow, numbers_below}
use Rattle.ua_table.proofs.Counts.{each_once-numbers_below, each_once-IsPermutation, length-numbers_below}
use Rattle.ua_table.proofs.Lists.{Contains-map_from}
use Rattle.ua_listing.specs.declared.sorting.HighRow.{HighRow}
use Rattle.ua_listing.specs.inner.Leasts.{ComesBefore, AreByHeight}
use Rattle.ua_listing.specs.inner.Rankings.{places_of}
use Rattle.ua_table.proofs.NumbersOnce.{once-differ}

-- a height and a position
abbrev pub High : Type 0
High = ℕ × ℕ

abbrev pub high : HighRow → High
high r = (r.height, r.place)

abbrev pub high_cmp : High → High → Ordering
high_cmp a b = ordering_then (nat_cmp a.0 b.0) (nat_cmp a.1 b.1)

-- the first positions with their heights
abbrev pub highs : List ℕ → ℕ → List High
highs heights n = map (λ i. (slice_index heights i, i)) (numbers_below n)

pub highs_more : (heights : List ℕ) (k : ℕ) → highs heights (k + 1) ≡ highs heights k ++ (slice_index heights k, k) ∷ []
highs_more heights k = ap (highs heights) (let e : k + 1 ≡ suc k = omega arith in e) ∙ map-append (λ i. (slice_index heights i, i)) (numbers_below k) (k ∷ [])

numbers_back : (g : ℕ → ℕ) (xs : List ℕ) → map (λ (a : High). a.1) (map (λ i. (g i, i)) xs) ≡ xs
numbers_back g [] = refl
numbers_back g (x ∷ xs) = ap (λ (ys : List ℕ). x ∷ ys) (numbers_back g xs)

-- what is in order
not_after : (h k p q : ℕ) → is_lt (ordering_then (nat_cmp k h) (nat_cmp q p)) ≡ false → (h < k) ⊎ ((h ≡ k) × (p ≤ q))
not_after h k p q e = ⊎_elim
    (λ l. inl l)
    (λ ge. ⊎_elim
    (λ l. absurd (let bad : true ≡ false = ap (λ o. is_lt (ordering_then o (nat_cmp q p))) (nat_cmp_is k h Less l) ∙ e in cc))
    (λ le.
    let same : h ≡ k = omega (arith, ge, le) in
    inr (
      same,
      ⊎_elim
          (λ l. absurd (let bad : true ≡ false = (λ i. is_lt (ordering_then (nat_cmp_is k h Equal (sym same) i) (nat_cmp_is q p Less l i))) ∙ e in cc))
          (λ r. r)
          (cases_lt q p),
    ))
    (cases_lt k h))
    (cases_lt h k)

pub before_chain : (heights : List ℕ) (i j k : ℕ) → ComesBefore heights i j → ComesBefore heights j k → ComesBefore heights i k
before_chain heights i j k a b = ⊎_elim
    (λ l. ⊎_elim (λ m. inl (omega (arith, l, m))) (λ m. inl (let e = m.0 in omega (arith, l, e))) b)
    (λ l. ⊎_elim (λ m. inl (let e = l.0 in omega (arith, e, m))) (λ m. inr (l.0 ∙ m.0, let x = l.1 in let y = m.1 in omega (arith, x, y))) b)
    a

module _ (heights : List ℕ) (ps : List High) (permutation : IsPermutation (highs heights (length heights)) ps) (sorted : IsSorted high_cmp ps) where
  once : EachOnceBelow (length heights) (map (λ (a : High). a.1) ps)
  once = each_once-IsPermutation (length heights) (map (λ (a : High). a.1) (highs heights (length heights))) (map (λ (a : High). a.1) ps)
      (IsPermutation-map (λ (a : High). a.1) (highs heights (length heights)) ps permutation)
      (subst (EachOnceBelow (length heights)) (sym (numbers_back (slice_index heights) (numbers_below (length heights)))) (each_once-numbers_below (length heights)))

  count : length (map (λ (a : High). a.1) ps) ≡ length heights
  count = length-map ps (λ (a : High). a.1) ∙ length_permutation (highs heights (length heights)) ps permutation ∙ length-map (numbers_below (length heights)) (λ i. (slice_index heights i, i)) ∙ length-numbers_below (length heights)

  height_at : (i : ℕ) (d : High) → i < length ps → (get_or ps i d).0 ≡ slice_index heights (get_or ps i d).1
  height_at i d h =
      let a = get_or ps i d in
      let c = Contains-permutation ps (highs heights (length heights)) a (IsPermutation-sym (highs heights (length heights)) ps permutation) (i, h, get_or_default ps i a d h) in
      let m = Contains-map_from (λ i. (slice_index heights i, i)) a (numbers_below (length heights)) c in
      ap (λ (x : High). x.0) (sym m.2) ∙ ap (slice_index heights) (ap (λ (x : High). x.1) m.2)

  place_at : (i : ℕ) (d : High) → i < length ps → slice_index (map (λ (a : High). a.1) ps) i ≡ (get_or ps i d).1
  place_at i d h = get_or-map (λ (a : High). a.1) ps i d 0 h

  adjacent : (k : ℕ) → k + 1 < length ps → ComesBefore heights (slice_index (map (λ (a : High). a.1) ps) k) (slice_index (map (λ (a : High). a.1) ps) (k + 1))
  adjacent k h =
      let d : High = (0, 0) in
      let low : k < length ps = omega (arith, h) in
      let here = place_at k d low in
      let next = place_at (k + 1) d h in
      let hh = height_at k d low ∙ ap (slice_index heights) (sym here) in
      let hn = height_at (k + 1) d h ∙ ap (slice_index heights) (sym next) in
      let differ : slice_index (map (λ (a : High). a.1) ps) k ≢ slice_index (map (λ (a : High). a.1) ps) (k + 1) =
      once-differ (length heights) (map (λ (a : High). a.1) ps) once k (k + 1) (omega arith)
      (let n = length-map ps (λ (a : High). a.1) in omega (arith, n, h)) in
      ⊎_elim
      (λ l. inl (omega (arith, l, hh, hn)))
      (λ e. inr (sym hh ∙ e.0 ∙ hn, ⊎_elim (λ l. l) (λ ge. absurd (differ (let r = e.1 in omega (arith, ge, r, here, next)))) (cases_lt (slice_index (map (λ (a : High). a.1) ps) k) (slice_index (map (λ (a : High). a.1) ps) (k + 1)))))
      (not_after (get_or ps k d).0 (get_or ps (k + 1) d).0 (get_or ps k d).1 (get_or ps (k + 1) d).1 (sorted k d (omega arith) h))

  ascending : (j n : ℕ) → j + suc n < length ps → ComesBefore heights (slice_index (map (λ (a : High). a.1) ps) j) (slice_index (map (λ (a : High). a.1) ps) (j + suc n))
  ascending j zero h = subst (λ m. ComesBefore heights (slice_index (map (λ (a : High). a.1) ps) j) (slice_index (map (λ (a : High). a.1) ps) m)) (let e : j + 1 ≡ j + suc zero = omega arith in e) (adjacent j (omega (arith, h)))
  ascending j (suc n) h =
      before_chain heights (slice_index (map (λ (a : High). a.1) ps) j) (slice_index (map (λ (a : High). a.1) ps) (j + suc n)) (slice_index (map (λ (a : High). a.1) ps) (j + suc (suc n)))
      (ascending j n (omega (arith, h)))
      (subst (λ m. ComesBefore heights (slice_index (map (λ (a : High). a.1) ps) (j + suc n)) (slice_index (map (λ (a : High). a.1) ps) m))
      (let e : j + suc n + 1 ≡ j + suc (suc n) = omega arith in e) (adjacent (j + suc n) (omega (arith, h))))

  pub by_height : AreByHeight heights (map (λ (a : High). a.1) ps)
  by_height = record {
    count = count;
    once = once;
    ascending = λ j k low h. apart j k (gap j k low) h;
  }
    where
      gap : (j k : ℕ) → j < k → (n : ℕ) × (k ≡ j + suc n)
      gap j k l = (k - (j + 1), omega (arith, l))

      apart : (j k : ℕ) → ((n : ℕ) × (k ≡ j + suc n)) → k < length (map (λ (a : High). a.1) ps) → ComesBefore heights (slice_index (map (λ (a : High). a.1) ps) j) (slice_index (map (λ (a : High). a.1) ps) k)
      apart j k g h =
          subst (λ m. ComesBefore heights (slice_index (map (λ (a : High). a.1) ps) j) (slice_index (map (λ (a : High). a.1) ps) m)) (sym g.1)
          (ascending j g.0 (let n = length-map ps (λ (a : High). a.1) in let e = g.1 in omega (arith, n, h, e)))

places_are : (rs : List HighRow) → map (λ (a : High). a.1) (map high rs) ≡ places_of rs
places_are [] = refl
places_are (r ∷ rs) = ap (λ (xs : List ℕ). r.place ∷ xs) (places_are rs)

pub by_height_from : (heights : List ℕ) (rs : List HighRow) → IsPermutation (highs heights (length heights)) (map high rs) → IsSorted high_cmp (map high rs) → AreByHeight heights (places_of rs)
by_height_from heights rs permutation sorted = subst (AreByHeight heights) (places_are rs) (by_height heights (map high rs) permutation sorted)
