-- Pairs of places, in order.
use Rattle.std.proofs.Common.{◌≡◌, ℕ, ◌+◌, ◌<◌, cond, List, [], ◌∷◌, ◌++◌, length, sym, ap, ◌∙◌, subst, arith, ⊎_elim}
use Rattle.std.specs.Prelude.{Contains, ◌==◌}
use Rattle.std.specs.List.Sorted.{IsStrictlySortedBy}
use Rattle.std.specs.Cmp.{nat_cmp_total, tied_itself}
use Rattle.std.specs.Ordering.{nat_cmp, ordering_then}
use Rattle.std.specs.declared.cmp.Ordering.{Ordering}
use Rattle.std.specs.declared.cmp.Ordering.TheVariants.{Less, Equal, Greater}
use Rattle.std.proofs.lemmas.Bool.{cases_lt, lt-ltb}
use Rattle.std.proofs.lemmas.Map.Keys.{sorted_from_strictly_increasing}
use Rattle.std.proofs.lemmas.List.Elements.{Contains-append_left, Contains-append_right, Contains-append_cases}
use Rattle.ua_table.specs.Algebras.{FiniteAlgebra}
use Rattle.ua_table.proofs.Lists.{all_append, all_from_contains, all_weaker, all_map, Contains-head, Contains-tail, Contains-map, Contains-map_from, Contains-none}
use Rattle.ua_part.specs.Partitions.{Partition}
use Rattle.ua_lattice.specs.Lattices.{by_places, IsCover, AreCovers, at}
use Rattle.ua_lattice.specs.inner.Places.{AreUpperCovers, AreCoversOfFirst, pairs_from}

-- one sorted list and another behind it
sorted_append : {K : Type 0} (c : K → K → Ordering) (xs ys : List K) → IsStrictlySortedBy c xs → IsStrictlySortedBy c ys → ((x y : K) → Contains xs x → Contains ys y → c x y ≡ Less) → IsStrictlySortedBy c (xs ++ ys)
unfolding IsStrictlySortedBy
sorted_append c [] ys hx hy cross = hy
sorted_append c (x ∷ xs) ys hx hy cross = (
  all_append (λ y. c x y ≡ Less) xs ys hx.0 (all_from_contains (λ y. c x y ≡ Less) ys (λ y k. cross x y (Contains-head x xs) k)),
  sorted_append c xs ys hx.1 hy (λ z y k l. cross z y (Contains-tail x z xs k) l),
)

-- ---- pairs with one first place

first_less : (m n i j : ℕ) → m < n → by_places (m, i) (n, j) ≡ Less
first_less m n i j h = ap (λ b. ordering_then (cond b Less (cond (m == n) Equal Greater)) (nat_cmp i j)) (lt-ltb m n h)

second_less : (n i j : ℕ) → nat_cmp i j ≡ Less → by_places (n, i) (n, j) ≡ Less
second_less n i j h = ap (λ o. ordering_then o (nat_cmp i j)) (tied_itself nat_cmp_total n) ∙ h

sorted_pairs : (n : ℕ) (js : List ℕ) → IsStrictlySortedBy nat_cmp js → IsStrictlySortedBy by_places (pairs_from n js)
unfolding IsStrictlySortedBy
sorted_pairs n [] h = tt
sorted_pairs n (j ∷ js) h = (
  all_map (λ (pair : ℕ × ℕ). by_places (n, j) pair ≡ Less) (λ (k : ℕ). (n, k)) js (all_weaker (λ k. nat_cmp j k ≡ Less) (λ k. by_places (n, j) (n, k) ≡ Less) (λ k e. second_less n j k e) js h.0),
  sorted_pairs n js h.1,
)

-- ---- the covers of the first places

pub covers_none : (a : FiniteAlgebra) (list : List Partition) (pairs : List (ℕ × ℕ)) → pairs ≡ [] → AreCoversOfFirst a list 0 pairs
unfolding IsStrictlySortedBy
covers_none a list pairs empty = subst (AreCoversOfFirst a list 0) (sym empty) (record {
  in_order = tt;
  all = λ i j. (λ c. absurd (Contains-none (i, j) c), λ both. absurd (let w = both.0 in omega (arith, w)));
})

module _ (a : FiniteAlgebra) (list : List Partition) (n : ℕ) (pairs : List (ℕ × ℕ)) (least : List ℕ) (h : AreCoversOfFirst a list n pairs) (u : AreUpperCovers a list n least) where
  -- a new pair has the new place first
  new_pair : (pair : ℕ × ℕ) → Contains (pairs_from n least) pair → (pair.0 ≡ n) × Contains least pair.1
  new_pair pair c =
      let k = Contains-map_from (λ (j : ℕ). (n, j)) pair least c in
      (ap (λ (p : ℕ × ℕ). p.0) (sym k.2), subst (Contains least) (ap (λ (p : ℕ × ℕ). p.1) k.2) k.1)

  pub covers_more : AreCoversOfFirst a list (n + 1) (pairs ++ pairs_from n least)
  covers_more = record {
    in_order = sorted_append by_places pairs (pairs_from n least) h.in_order (sorted_pairs n least (sorted_from_strictly_increasing least u.in_order)) (λ x y cx cy.
        let low = ((h.all x.0 x.1).0 cx).0 in
        let here = (new_pair y cy).0 in
        first_less x.0 y.0 x.1 y.1 (omega (arith, low, here)));
    all = λ i j. (
      (λ c. ⊎_elim
          (λ old. let b = (h.all i j).0 old in let low = b.0 in (omega (arith, low), b.1, b.2))
          (λ new.
          let k = new_pair (i, j) new in
          let b = (u.all j).0 k.1 in
          let is = k.0 in
          (omega (arith, is), b.0, subst (λ m. IsCover a (at list m) (at list j)) (sym is) b.1))
          (Contains-append_cases pairs (pairs_from n least) (i, j) c)),
      (λ b. ⊎_elim
          (λ low. Contains-append_left pairs (pairs_from n least) (i, j) ((h.all i j).1 (low, b.1, b.2)))
          (λ high.
          let w = b.0 in
          let is : n ≡ i = omega (arith, w, high) in
          let there = (u.all j).1 (b.1, subst (λ m. IsCover a (at list m) (at list j)) (sym is) b.2) in
          Contains-append_right pairs (pairs_from n least) (i, j) (subst (λ m. Contains (pairs_from n least) (m, j)) is (Contains-map (λ (k : ℕ). (n, k)) j least there)))
          (cases_lt i n)),
    );
  }

pub covers_all : (a : FiniteAlgebra) (list : List Partition) (n : ℕ) (pairs : List (ℕ × ℕ)) → length list ≡ n → AreCoversOfFirst a list n pairs → AreCovers a list pairs
covers_all a list n pairs all h = subst (λ m. AreCoversOfFirst a list m pairs → AreCovers a list pairs) all (λ g. record { in_order = g.in_order; all = g.all }) h
