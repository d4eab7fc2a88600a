-- A listing whose ranks go by a list of all positions.
use Rattle.std.proofs.Common.{◌≡◌, ◌≢◌, ⊎_elim, ℕ, zero, suc, ◌+◌, ◌<◌, List, [], ◌∷◌, ◌++◌, length, take, get_or, refl, sym, ap, ◌∙◌, subst, arith}
use Rattle.std.specs.Prelude.{Contains, slice_index, slice_index_or, nat_eq}
use Rattle.std.specs.List.{IsDistinct}
use Rattle.std.specs.Cmp.Lexicographic.{slice_cmp, nat_list_cmp_total, pointwise, texts_ties}
use Rattle.std.specs.Ordering.{nat_cmp, ordering_reverse}
use Rattle.std.specs.declared.cmp.Ordering.TheVariants.{Less, Greater}
use Rattle.std.proofs.lemmas.Bool.{cases_lt}
use Rattle.std.proofs.lemmas.List.{length-map, get_or-map, take_more, map-append, get_or_append_left, get_or_default}
use Rattle.std.proofs.lemmas.Map.Keys.{Less-from_sorted, IsDistinct-from_sorted}
use Rattle.std.proofs.Math.Seq.{get_or-append_seam}
use Rattle.ua_table.specs.declared.origins.Origin.{Origin}
use Rattle.ua_table.specs.Algebras.{Vector, IsIncreasing}
use Rattle.ua_table.specs.Counting.{EachOnceBelow, times, numbers_below}
use Rattle.ua_table.proofs.Counts.{length-numbers_below, once_in, once_out, one_if-same, one_if-other}
use Rattle.ua_table.proofs.Lists.{Contains-map_from}
use Rattle.ua_rows.specs.RowLists.{rows_at}
use Rattle.ua_listing.specs.Rankings.{ArePositions}
use Rattle.ua_listing.specs.Arrangements.{IsIndex}
use Rattle.ua_table.proofs.NumbersOnce.{once-below, once-some, once-differ}

-- ---- increasing vectors differ

same_not_less : (v : Vector) → slice_cmp nat_cmp v v ≢ Less
same_not_less v e = let bad : Less ≡ Greater = sym e ∙ nat_list_cmp_total.antisymm v v ∙ ap ordering_reverse e in cc

pub increasing_apart : (vs : List Vector) → IsIncreasing vs → (i j : ℕ) → i < length vs → j < length vs → get_or vs i [] ≡ get_or vs j [] → i ≡ j
increasing_apart vs inc i j hi hj e = ⊎_elim
    (λ low. absurd (same_not_less (get_or vs i []) (ap (slice_cmp nat_cmp (get_or vs i [])) e ∙ Less-from_sorted (slice_cmp nat_cmp) vs i j [] inc low hj)))
    (λ high. ⊎_elim
    (λ low. absurd (same_not_less (get_or vs j []) (ap (slice_cmp nat_cmp (get_or vs j [])) (sym e) ∙ Less-from_sorted (slice_cmp nat_cmp) vs j i [] inc low hi)))
    (λ le. omega (arith, high, le))
    (cases_lt j i))
    (cases_lt i j)

pub increasing_different : (vs : List Vector) → IsIncreasing vs → IsDistinct (pointwise nat_eq) vs
increasing_different vs inc = subst (λ E. IsDistinct E vs) (λ i x y. sym (texts_ties x y) i) (IsDistinct-from_sorted (slice_cmp nat_cmp) vs inc)

-- ---- rows at places

pub rows_more : (vs : List Vector) (places : List ℕ) (k : ℕ) → k < length places → rows_at vs (take (k + 1) places) ≡ rows_at vs (take k places) ++ get_or vs (get_or places k 0) [] ∷ []
rows_more vs places k h = ap (rows_at vs) (take_more places k 0 h) ∙ map-append (λ i. slice_index_or vs i []) (take k places) (get_or places k 0 ∷ [])

taken_member : (places : List ℕ) (k x : ℕ) → Contains (take k places) x → (j : ℕ) × (j < k) × (j < length places) × (get_or places j 0 ≡ x)
taken_member [] k x c = absurd (none k c)
  where
    none : (k : ℕ) → Contains (take k []) x → ⊥
    none zero c = let l = c.1 in omega (arith, l)
    none (suc k) c = let l = c.1 in omega (arith, l)
taken_member (y ∷ ys) zero x c = absurd (let l = c.1 in omega (arith, l))
taken_member (y ∷ ys) (suc k) x c = cases (taken_member ys k x) c.0 c.1 c.2
  where
    cases : (Contains (take k ys) x → (j : ℕ) × (j < k) × (j < length ys) × (get_or ys j 0 ≡ x)) → (i : ℕ) → i < length (y ∷ take k ys)
        → get_or (y ∷ take k ys) i x ≡ x → (j : ℕ) × (j < suc k) × (j < length (y ∷ ys)) × (get_or (y ∷ ys) j 0 ≡ x)
    cases later zero h e = (0, omega arith, omega arith, e)
    cases later (suc i) h e = let r = later (i, omega (arith, h), e) in (suc r.0, (let a = r.1 in omega (arith, a)), (let b = r.2 in omega (arith, b)), r.3)

pub row_new : (vs : List Vector) (places : List ℕ) (k : ℕ) → IsIncreasing vs → EachOnceBelow (length vs) places → k < length places → Contains (rows_at vs (take k places)) (get_or vs (get_or places k 0) []) → ⊥
row_new vs places k inc once h c =
    let m = Contains-map_from (λ i. slice_index_or vs i []) (get_or vs (get_or places k 0) []) (take k places) c in
    let t = taken_member places k m.0 m.1 in
    let low_j : m.0 < length vs = (let b = once-below (length vs) places once t.0 t.2 in let e = t.3 in omega (arith, b, e)) in
    let same = increasing_apart vs inc m.0 (get_or places k 0) low_j (once-below (length vs) places once k h) m.2 in
    once-differ (length vs) places once t.0 k t.1 h (t.3 ∙ same)

-- ---- inverse lists

times_none : (k : ℕ) (xs : List ℕ) → ((j : ℕ) → j < length xs → get_or xs j 0 ≢ k) → times k xs ≡ 0
times_none k [] h = refl
times_none k (x ∷ xs) h =
    let here = one_if-other k x (h 0 (omega arith)) in
    let rest = times_none k xs (λ j l. h (suc j) (omega (arith, l))) in
    omega (arith, here, rest)

times_one : (k : ℕ) (xs : List ℕ) (i : ℕ) → i < length xs → get_or xs i 0 ≡ k → ((j : ℕ) → j < length xs → get_or xs j 0 ≡ k → j ≡ i) → times k xs ≡ 1
times_one k [] i h e only = absurd (omega (arith, h))
times_one k (x ∷ xs) zero h e only =
    let here = one_if-same k x e in
    let rest = times_none k xs (λ j l f. let bad = only (suc j) (omega (arith, l)) f in omega (arith, bad)) in
    omega (arith, here, rest)
times_one k (x ∷ xs) (suc i) h e only =
    let here = one_if-other k x (λ f. let bad = only 0 (omega arith) f in omega (arith, bad)) in
    let rest = times_one k xs i (omega (arith, h)) e (λ j l f. let same = only (suc j) (omega (arith, l)) f in omega (arith, same)) in
    omega (arith, here, rest)

same_vectors : (us vs : List Vector) → length us ≡ length vs → ((i : ℕ) → i < length us → get_or us i [] ≡ get_or vs i []) → us ≡ vs
same_vectors [] [] n h = refl
same_vectors [] (v ∷ vs) n h = absurd (omega (arith, n))
same_vectors (u ∷ us) [] n h = absurd (omega (arith, n))
same_vectors (u ∷ us) (v ∷ vs) n h = λ i. h 0 (omega arith) i ∷ same_vectors us vs (omega (arith, n)) (λ j l. h (suc j) (omega (arith, l))) i

module _ (n : ℕ) (places ranks : List ℕ) (once : EachOnceBelow n places) (count : length places ≡ n) (positions : ArePositions places ranks) where
  -- the rank of a position
  pub record IsRankOf (i : ℕ) : Type 0 where
    pub low : slice_index ranks i < n
    pub back : slice_index places (slice_index ranks i) ≡ i

  pub rank_of : (i : ℕ) → i < n → IsRankOf i
  rank_of i h =
      let c = once-some n places once i h in
      let at : slice_index places c.0 ≡ i = get_or_default places c.0 0 i c.1 ∙ c.2 in
      let r : slice_index ranks i ≡ c.0 = ap (slice_index ranks) (sym at) ∙ positions.each c.0 c.1 in
      record { low = (let l = c.1 in omega (arith, r, l, count)); back = ap (slice_index places) r ∙ at }

  ranks_count : length ranks ≡ n
  ranks_count = positions.count ∙ count

  pub inverse_positions : ArePositions ranks places
  inverse_positions = record {
    count = sym positions.count;
    each = λ i h. (rank_of i (let m = ranks_count in omega (arith, h, m))).back;
  }

  pub inverse_once : EachOnceBelow n ranks
  inverse_once k = ⊎_elim
      (λ low.
      times_one k ranks (slice_index places k) (let b = once-below n places once k (omega (arith, low, count)) in let m = ranks_count in omega (arith, b, m)) (positions.each k (omega (arith, low, count)))
      (λ j l e. sym (rank_of j (let m = ranks_count in omega (arith, l, m))).back ∙ ap (slice_index places) e)
      ∙ sym (once_in n k low))
      (λ high. times_none k ranks (λ j l e. let r = (rank_of j (let m = ranks_count in omega (arith, l, m))).low in omega (arith, r, e, high)) ∙ sym (once_out n k high))
      (cases_lt k n)

  module _ (vs : List Vector) (all : length vs ≡ n) where
    pub rows_count : length (rows_at vs places) ≡ n
    rows_count = length-map places (λ i. slice_index_or vs i []) ∙ count

    -- the rows by rank, taken by rank, are the rows
    pub rows_back : rows_at (rows_at vs places) ranks ≡ vs
    rows_back = same_vectors (rows_at (rows_at vs places) ranks) vs (length-map ranks (λ r. slice_index_or (rows_at vs places) r []) ∙ ranks_count ∙ sym all)
        (λ i h.
        let low : i < length ranks = (let l = length-map ranks (λ r. slice_index_or (rows_at vs places) r []) in omega (arith, h, l)) in
        let r = rank_of i (let m = ranks_count in omega (arith, low, m)) in
        get_or-map (λ r. slice_index_or (rows_at vs places) r []) ranks i 0 [] low
        ∙ get_or-map (λ i. slice_index_or vs i []) places (slice_index ranks i) 0 [] (let l = r.low in omega (arith, l, count))
        ∙ ap (λ k. get_or vs k []) r.back)

    pub rearranged_index : (os : List Origin) → IsIncreasing vs → length os ≡ n → IsIndex (rows_at vs places) ranks places os
    rearranged_index os inc os_count = record {
      ranking = record {
        count = ranks_count ∙ sym rows_count;
        once = subst (λ m. EachOnceBelow m ranks) (sym rows_count) inverse_once;
        increasing = subst IsIncreasing (sym rows_back) inc;
      };
      positions = inverse_positions;
      origins = os_count ∙ sym ranks_count;
    }

-- ---- all positions, in order

numbers_at : (n i : ℕ) → i < n → get_or (numbers_below n) i 0 ≡ i
numbers_at zero i h = absurd (omega (arith, h))
numbers_at (suc n) i h = ⊎_elim
    (λ low. get_or_append_left (numbers_below n) (n ∷ []) 0 i (let l = length-numbers_below n in omega (arith, l, low)) ∙ numbers_at n i low)
    (λ high.
    let at : i ≡ n = omega (arith, high, h) in
    ap (λ k. get_or (numbers_below n ++ n ∷ []) k 0) (at ∙ sym (length-numbers_below n)) ∙ get_or-append_seam (numbers_below n) n [] 0 ∙ sym at)
    (cases_lt i n)

pub rows_whole : (vs : List Vector) (n : ℕ) → length vs ≡ n → rows_at vs (numbers_below n) ≡ vs
rows_whole vs n e = same_vectors (rows_at vs (numbers_below n)) vs (length-map (numbers_below n) (λ i. slice_index_or vs i []) ∙ length-numbers_below n ∙ sym e)
    (λ i h.
    let low : i < length (numbers_below n) = (let l = length-map (numbers_below n) (λ i. slice_index_or vs i []) in omega (arith, h, l)) in
    get_or-map (λ i. slice_index_or vs i []) (numbers_below n) i 0 [] low ∙ ap (λ k. get_or vs k []) (numbers_at n i (let l = length-numbers_below n in omega (arith, low, l))))
