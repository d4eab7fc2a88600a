-- Each list of new records has an arrangement: its rows can be put in order.
use Rattle.std.proofs.Common.{◌≡◌, ℕ, zero, suc, ◌+◌, ◌<◌, Bool, true, false, cond, List, [], ◌∷◌, length, map, get_or, refl, sym, ap, ◌∙◌, subst, arith, Ordering, nat_eq}
use Rattle.std.specs.Prelude.{◌==◌}
use Rattle.std.specs.List.{AllByRecursion, IsDistinct, position_or_len, range_with_len}
use Rattle.std.specs.List.Sorted.{IsPermutation, IsSortedBy}
use Rattle.std.specs.Cmp.Lexicographic.{slice_cmp, pointwise, nat_list_cmp_total}
use Rattle.std.specs.Ordering.{nat_cmp, ordering_then, ordering_reverse, is_lt}
use Rattle.std.specs.declared.cmp.Ordering.TheVariants.{Less, Equal, Greater}
use Rattle.std.proofs.lemmas.Bool.Decides.{nat_tests}
use Rattle.std.proofs.lemmas.Cmp.{nat_cmp_total}
use Rattle.std.proofs.lemmas.List.FromFn.{length-map-range_with_len, get_or-map-range_with_len}
use Rattle.std.proofs.lemmas.List.Sorted.{IsPermutation-refl, IsPermutation-cons, IsPermutation-trans, IsPermutation-middle}
use Rattle.std.proofs.lemmas.List.Sums.{position_or_len_is}
use Rattle.ua_table.specs.Algebras.{Vector}
use Rattle.ua_table.specs.Counting.{EachOnceBelow}
use Rattle.ua_table.specs.Listings.{Row}
use Rattle.ua_table.specs.Orders.{Record, rows_of}
use Rattle.ua_listing.specs.Rankings.{IsRanking, ArePositions}
use Rattle.ua_listing.specs.Arrangements.{listed, IsOriginOver, IsArranged}
use Rattle.ua_listing.specs.inner.Arrangements.{origins_at}
use Rattle.ua_listing.proofs.ArrangementLaws.{arranged}
use Rattle.ua_table.proofs.NumbersOnce.{once-below, once-differ}
use Rattle.ua_listing.proofs.RankingLaws.{Ranked, ranked_cmp, ranks, numbered, ranking}

-- ---- a list in order

module _ {X : Type 0} (lt : X → X → Bool) (one_way : (x y : X) → lt x y ≡ true → lt y x ≡ false) where
  -- the first of these, if any, is not below x
  abbrev pub IsBefore : X → List X → Type 0
  IsBefore x [] = Unit {0}
  IsBefore x (y ∷ ys) = lt y x ≡ false

  -- none is below the one before it
  abbrev pub AreInOrder : List X → Type 0
  AreInOrder [] = Unit {0}
  AreInOrder (x ∷ xs) = IsBefore x xs × AreInOrder xs

  -- the list with x before the first that is above it
  abbrev placed : X → List X → List X
  placed x [] = x ∷ []
  placed x (y ∷ ys) = cond (lt x y) (x ∷ y ∷ ys) (y ∷ placed x ys)

  placed_permutation : (x : X) (ys : List X) → IsPermutation (x ∷ ys) (placed x ys)
  placed_permutation x [] = IsPermutation-refl (x ∷ [])
  placed_permutation x (y ∷ ys) = here (placed_permutation x ys) (lt x y)
    where
      here : IsPermutation (x ∷ ys) (placed x ys) → (b : Bool) → IsPermutation (x ∷ y ∷ ys) (cond b (x ∷ y ∷ ys) (y ∷ placed x ys))
      here rest true = IsPermutation-refl (x ∷ y ∷ ys)
      here rest false = IsPermutation-trans (x ∷ y ∷ ys) (y ∷ x ∷ ys) (y ∷ placed x ys) (IsPermutation-middle (x ∷ []) y ys) (IsPermutation-cons y (x ∷ ys) (placed x ys) rest)

  placed_before : (y x : X) (ys : List X) → lt x y ≡ false → IsBefore y ys → IsBefore y (placed x ys)
  placed_before y x [] e h = e
  placed_before y x (z ∷ zs) e h = here (lt x z)
    where
      here : (b : Bool) → IsBefore y (cond b (x ∷ z ∷ zs) (z ∷ placed x zs))
      here true = e
      here false = h

  placed_in_order : (x : X) (ys : List X) → AreInOrder ys → AreInOrder (placed x ys)
  placed_in_order x [] h = (tt, tt)
  placed_in_order x (y ∷ ys) h = here (placed_in_order x ys h.1) (lt x y) refl
    where
      here : AreInOrder (placed x ys) → (b : Bool) → lt x y ≡ b → AreInOrder (cond b (x ∷ y ∷ ys) (y ∷ placed x ys))
      here rest true e = (one_way x y e, h)
      here rest false e = (placed_before y x ys e h.0, rest)

  pub sorted_from_order : (xs : List X) → AreInOrder xs → IsSortedBy lt xs
  sorted_from_order xs h k d l low = at k xs h low
    where
      at : (k : ℕ) (xs : List X) → AreInOrder xs → k + 1 < length xs → lt (get_or xs (k + 1) d) (get_or xs k d) ≡ false
      at k [] h low = absurd (omega (arith, low))
      at k (x ∷ []) h low = absurd (omega (arith, low))
      at zero (x ∷ y ∷ ys) h low = h.0
      at (suc k) (x ∷ y ∷ ys) h low =
          let next : suc (k + 1) ≡ suc k + 1 = omega arith in
          ap (λ n. lt (get_or (x ∷ y ∷ ys) n d) (get_or (y ∷ ys) k d)) (sym next) ∙ at k (y ∷ ys) h.1 (omega (arith, low))

  -- some permutation of the list is sorted
  pub sorted_exists : (xs : List X) → (ys : List X) × IsPermutation xs ys × AreInOrder ys
  sorted_exists [] = ([], IsPermutation-refl [], tt)
  sorted_exists (x ∷ xs) =
      let rest = sorted_exists xs in
      (placed x rest.0, IsPermutation-trans (x ∷ xs) (x ∷ rest.0) (placed x rest.0) (IsPermutation-cons x xs rest.0 rest.1) (placed_permutation x rest.0), placed_in_order x rest.0 rest.2)

-- ---- ranks and positions

pub reverse_then : (a b : Ordering) → ordering_then (ordering_reverse a) (ordering_reverse b) ≡ ordering_reverse (ordering_then a b)
reverse_then Less b = refl
reverse_then Equal b = refl
reverse_then Greater b = refl

ranked_reverse : (p q : Ranked) → ranked_cmp q p ≡ ordering_reverse (ranked_cmp p q)
ranked_reverse p q = (λ i. ordering_then (nat_list_cmp_total.antisymm q.0 p.0 i) (nat_cmp_total.antisymm q.1 p.1 i)) ∙ reverse_then (slice_cmp nat_cmp p.0 q.0) (nat_cmp p.1 q.1)

pub less_one_way : (o : Ordering) → is_lt o ≡ true → is_lt (ordering_reverse o) ≡ false
less_one_way Less e = refl
less_one_way Equal e = cc
less_one_way Greater e = cc

ranked_one_way : (p q : Ranked) → is_lt (ranked_cmp p q) ≡ true → is_lt (ranked_cmp q p) ≡ false
ranked_one_way p q e = ap is_lt (ranked_reverse p q) ∙ less_one_way (ranked_cmp p q) e

ranking_exists : (rows : List Vector) → IsDistinct (pointwise nat_eq) rows → (rs : List ℕ) × IsRanking rows rs
ranking_exists rows different =
    let below = λ (p q : Ranked). is_lt (ranked_cmp p q) in
    let sorted = sorted_exists below ranked_one_way (numbered 0 rows) in
    (ranks sorted.0, ranking rows sorted.0 different record { permutation = sorted.1; sorted = sorted_from_order below ranked_one_way sorted.0 sorted.2 })

-- the number of the place where k stands
abbrev place_in : List ℕ → ℕ → ℕ
place_in rs k = position_or_len (λ r. r == k) rs

pub positions_exist : (rs : List ℕ) → EachOnceBelow (length rs) rs → (places : List ℕ) × ArePositions rs places
positions_exist rs once = (map (place_in rs) (range_with_len 0 (length rs)), record { count = length-map-range_with_len (place_in rs) 0 (length rs); each = each })
  where
    other : (k r : ℕ) → ¬ (k ≡ r) → (k == r) ≡ false
    other k r n = grind (arith, nat_tests)

    itself : (r : ℕ) → (r == r) ≡ true
    itself r = grind (arith, nat_tests)

    each : (i : ℕ) → i < length rs → get_or (map (place_in rs) (range_with_len 0 (length rs))) (get_or rs i 0) 0 ≡ i
    each i h =
        let r = get_or rs i 0 in
        get_or-map-range_with_len (place_in rs) 0 (length rs) r r 0 (once-below (length rs) rs once i h) (omega arith)
        ∙ position_or_len_is (λ k. k == r) rs i 0 (omega (arith, h)) (λ k low. other (get_or rs k 0) r (once-differ (length rs) rs once k i low h)) (λ within. itself r)

-- ---- the arrangement

pub arranged_exists : (ks : List ℕ) (records : List Record) → IsDistinct (pointwise nat_eq) (rows_of records)
    → AllByRecursion (λ (r : Record). IsOriginOver ks (length records) r.1) records → (listing : List Row) × IsArranged ks records listing
arranged_exists ks records different valid =
    let r = ranking_exists (rows_of records) different in
    let p = positions_exist r.0 (subst (λ n. EachOnceBelow n r.0) (sym r.1.count) r.1.once) in
    (listed (rows_of records) r.0 (origins_at ks p.0 records r.0), arranged ks records r.0 p.0 r.1 p.1 valid)
