-- Those of some places whose partitions lie above none of the others.
use Rattle.std.proofs.Common.{◌≡◌, ℕ, ◌+◌, ◌-◌, ◌<◌, ◌≤◌, List, [], ◌∷◌, ◌++◌, length, sym, ap, ◌∙◌, subst, arith, ⊎_elim, length-append}
use Rattle.std.specs.Prelude.{slice_index, Contains}
use Rattle.std.specs.List.{AllByRecursion}
use Rattle.std.specs.List.Sorted.{IsStrictlyIncreasing}
use Rattle.std.proofs.lemmas.Bool.{cases_lt, cases_order}
use Rattle.std.proofs.lemmas.List.{get_or_append_left, get_or-append_right, get_or_default}
use Rattle.std.proofs.lemmas.List.Kept.{AllPairs-from_increasing}
use Rattle.std.proofs.lemmas.List.Elements.{All-from_recursion, Contains-get_or, Contains-push, Contains-append_left, Contains-push_cases}
use Rattle.ua_table.proofs.Lists.{all_from_contains}
use Rattle.ua_part.specs.Partitions.{Partition, LiesBelow}
use Rattle.ua_part.proofs.PartitionLaws.{below_itself, below_through}
use Rattle.ua_lattice.specs.Lattices.{at}
use Rattle.ua_lattice.specs.inner.Places.{AreOrdered, LiesAboveOne, IsLeastAmong, AreLeast}
use Rattle.ua_lattice.proofs.OrderLaws.{place_up}

-- ---- ascending numbers

-- a member stands at a place
pub place_of : (xs : List ℕ) (x : ℕ) → Contains xs x → (k : ℕ) × (k < length xs) × (slice_index xs k ≡ x)
place_of xs x c = (c.0, c.1, get_or_default xs c.0 0 x c.1 ∙ c.2)

-- one more number, above all of them
pub increasing_push : (xs : List ℕ) (y : ℕ) → IsStrictlyIncreasing xs → ((x : ℕ) → Contains xs x → x < y) → IsStrictlyIncreasing (xs ++ y ∷ [])
increasing_push xs y up above k w =
    ⊎_elim
    (λ low.
    let a = get_or_append_left xs (y ∷ []) 0 k (omega (arith, low)) in
    let b = get_or_append_left xs (y ∷ []) 0 (k + 1) low in
    let u = up k low in
    omega (arith, a, b, u))
    (λ high.
    let n = length-append xs (y ∷ []) in
    let last : k + 1 ≡ length xs = omega (arith, n, w, high) in
    let a = get_or_append_left xs (y ∷ []) 0 k (omega (arith, last)) in
    let b : slice_index (xs ++ y ∷ []) (k + 1) ≡ y = get_or-append_right xs (y ∷ []) (k + 1) (k + 1) 0 (sym last) (omega arith) ∙ ap (slice_index (y ∷ [])) (let z : (k + 1) - (k + 1) ≡ 0 = omega arith in z) in
    let u = above (slice_index xs k) (Contains-get_or xs k 0 (omega (arith, last))) in
    omega (arith, a, b, u))
    (cases_lt (k + 1) (length xs))

-- ---- the least so far

-- of the first k places
pub record AreLeastOfFirst (list : List Partition) (places : List ℕ) (k : ℕ) (least : List ℕ) : Type 0 where
  pub in_order : IsStrictlyIncreasing least
  pub among : (j : ℕ) → Contains least j → (m : ℕ) × (m < k) × (slice_index places m ≡ j)
  pub lowest : (j : ℕ) → Contains least j → IsLeastAmong list places j
  pub lower : (m : ℕ) → m < k → LiesAboveOne list least (slice_index places m)

module _ (list : List Partition) (places : List ℕ) (k : ℕ) (least : List ℕ) (h : AreLeastOfFirst list places k least) where
  pub least_within : AllByRecursion (λ j. j < length list) places → k ≤ length places → AllByRecursion (λ j. j < length list) least
  least_within within few =
      all_from_contains (λ j. j < length list) least (λ j c.
      let m = h.among j c in
      let low = m.1 in
      subst (λ (i : ℕ). i < length list) m.2 (All-from_recursion (λ i. i < length list) places within m.0 0 (omega (arith, low, few))))

  -- a place that lies above one of them is none
  pub least_kept : LiesAboveOne list least (slice_index places k) → AreLeastOfFirst list places (k + 1) least
  least_kept above = record {
    in_order = h.in_order;
    among = λ j c. let m = h.among j c in let low = m.1 in (m.0, omega (arith, low), m.2);
    lowest = h.lowest;
    lower = λ m w. ⊎_elim (λ low. h.lower m low) (λ high. let is : k ≡ m = omega (arith, w, high) in subst (λ n. LiesAboveOne list least (slice_index places n)) is above) (cases_lt m k);
  }

  module _ (ordered : AreOrdered list) (up : IsStrictlyIncreasing places) (within : AllByRecursion (λ j. j < length list) places) (here : k < length places) where
    within_at : (m : ℕ) → m < length places → slice_index places m < length list
    within_at m w = All-from_recursion (λ i. i < length list) places within m 0 w

    -- a place that lies above none of them is one
    pub least_pushed : ¬ LiesAboveOne list least (slice_index places k) → AreLeastOfFirst list places (k + 1) (least ++ slice_index places k ∷ [])
    least_pushed none = record {
      in_order = increasing_push least p h.in_order (λ j c. let m = h.among j c in let low = m.1 in subst (λ (i : ℕ). i < p) m.2 (AllPairs-from_increasing places up m.0 k 0 low here));
      among = λ j c. ⊎_elim (λ old. let m = h.among j old in let low = m.1 in (m.0, omega (arith, low), m.2)) (λ is. (k, omega arith, is)) (Contains-push_cases least p j c);
      lowest = λ j c. ⊎_elim (λ old. h.lowest j old) (λ is. subst (IsLeastAmong list places) is lowest_here) (Contains-push_cases least p j c);
      lower = λ m w. ⊎_elim
          (λ low. let l = h.lower m low in record { lower = l.lower; inside = Contains-append_left least (p ∷ []) l.lower l.inside; below = l.below })
          (λ high. let is : k ≡ m = omega (arith, w, high) in record { lower = p; inside = Contains-push least p; below = subst (λ n. LiesBelow (at list p) (at list (slice_index places n))) is (below_itself (at list p)) })
          (cases_lt m k);
    }
      where
        p : ℕ
        p = slice_index places k

        lowest_here : IsLeastAmong list places (slice_index places k)
        lowest_here c inside below =
            let m = place_of places c inside in
            let by_order = cases_order m.0 k in
            ⊎_elim
            (λ same. sym m.2 ∙ ap (slice_index places) same)
            (λ apart. ⊎_elim
            (λ before.
            let l = h.lower m.0 before in
            absurd
            (none
            (record {
              lower = l.lower;
              inside = l.inside;
              below = below_through (at list l.lower) (at list (slice_index places m.0))
                  (at list (slice_index places k)) l.below
                  (subst (λ i. LiesBelow (at list i) (at list (slice_index places k))) (sym m.2) below);
            })))
            (λ after.
            let rise = AllPairs-from_increasing places up k m.0 0 after m.1 in
            let low = place_up list ordered c (slice_index places k) (subst (λ (i : ℕ). i < length list) m.2 (within_at m.0 m.1)) (within_at k here) below in
            let is = m.2 in
            absurd (omega (arith, rise, low, is)))
            apart)
            by_order

-- all of them
pub least_all : (list : List Partition) (places least : List ℕ) (k : ℕ) → length places ≡ k → AreLeastOfFirst list places k least → AreLeast list places least
least_all list places least k all h = record { in_order = h.in_order; all = λ j. (λ c. (member j c, h.lowest j c), back j) }
  where
    member : (j : ℕ) → Contains least j → Contains places j
    member j c = let m = h.among j c in let low = m.1 in subst (Contains places) m.2 (Contains-get_or places m.0 0 (omega (arith, low, all)))

    back : (j : ℕ) → Contains places j × IsLeastAmong list places j → Contains least j
    back j both =
        let m = place_of places j both.0 in
        let w = m.1 in
        let l = h.lower m.0 (omega (arith, w, all)) in
        subst (Contains least) (both.1 l.lower (member l.lower l.inside) (subst (λ i. LiesBelow (at list l.lower) (at list i)) m.2 l.below)) l.inside
