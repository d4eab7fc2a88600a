-- Rows in order, from their numbers.
use Rattle.std.proofs.Common.{◌≡◌, ◌≢◌, ℕ, zero, suc, ◌+◌, ◌<◌, ◌≤◌, true, false, List, [], ◌∷◌, ◌++◌, length, map, take, get_or, refl, sym, ap, ◌∙◌, subst, arith, Ordering, ⊎_elim, nat_eq}
use Rattle.std.specs.Prelude.{slice_index_or}
use Rattle.std.specs.List.{IsDistinct}
use Rattle.std.specs.List.Sorted.{IsPermutation, IsSorted}
use Rattle.std.specs.Cmp.Lexicographic.{slice_cmp, nat_list_cmp_total, pointwise, bytes_decides}
use Rattle.std.specs.Ordering.{nat_cmp, ordering_then, ordering_reverse, is_lt}
use Rattle.std.specs.declared.cmp.Ordering.TheVariants.{Less, Equal, Greater}
use Rattle.std.proofs.lemmas.Map.Lookups.{exact_bytes}
use Rattle.std.proofs.lemmas.Map.Keys.{sorted_from_all_adjacent, apart_from_distinct}
use Rattle.std.proofs.lemmas.List.{length-map, get_or-map, take_more, take_all, length-take-le, map-append, get_or_default}
use Rattle.std.proofs.lemmas.List.Sorted.{IsPermutation-map, length_permutation, Contains-permutation, IsPermutation-sym}
use Rattle.std.proofs.lemmas.Bool.{cases_lt}
use Rattle.ua_table.specs.Algebras.{Vector, IsIncreasing}
use Rattle.ua_table.specs.Counting.{EachOnceBelow, numbers_below}
use Rattle.ua_table.proofs.Counts.{each_once-numbers_below, each_once-IsPermutation}
use Rattle.ua_rows.specs.RowLists.{rows_at}
use Rattle.ua_listing.specs.declared.sorting.RankedRow.{RankedRow}
use Rattle.ua_listing.specs.Rankings.{IsRanking}
use Rattle.ua_listing.specs.inner.Rankings.{ranks_of_rows}
use Rattle.ua_table.proofs.NumbersOnce.{once-differ}

-- a vector and its rank
abbrev pub Ranked : Type 0
Ranked = Vector × ℕ

abbrev pub ranked : RankedRow → Ranked
ranked r = (r.vector.now, r.rank)

-- by vector, and then by rank
abbrev pub ranked_cmp : Ranked → Ranked → Ordering
ranked_cmp p q = ordering_then (slice_cmp nat_cmp p.0 q.0) (nat_cmp p.1 q.1)

-- each vector with its number, from n on
abbrev pub numbered : ℕ → List Vector → List Ranked
numbered n [] = []
numbered n (v ∷ vs) = (v, n) ∷ numbered (n + 1) vs

-- the rows with their ranks, in order
pub record IsInOrder (rows : List Vector) (ps : List Ranked) : Type 0 where
  pub permutation : IsPermutation (numbered 0 rows) ps
  pub sorted : IsSorted ranked_cmp ps

-- ---- the rows with their numbers

length-numbered : (n : ℕ) (vs : List Vector) → length (numbered n vs) ≡ length vs
length-numbered n [] = refl
length-numbered n (v ∷ vs) = ap suc (length-numbered (n + 1) vs)

-- one more row
pub numbered_more : (vs : List Vector) (k : ℕ) → k < length vs → numbered 0 (take (k + 1) vs) ≡ numbered 0 (take k vs) ++ (get_or vs k [], k) ∷ []
numbered_more vs k h = ap (numbered 0) (take_more vs k [] h) ∙ numbered-push 0 (take k vs) (get_or vs k []) ∙ ap (λ m. numbered 0 (take k vs) ++ (get_or vs k [], m) ∷ []) (omega (arith, length-take-le k vs (omega (arith, h))))
  where
    numbered-push : (n : ℕ) (vs : List Vector) (v : Vector) → numbered n (vs ++ v ∷ []) ≡ numbered n vs ++ (v, n + length vs) ∷ []
    numbered-push n [] v = ap (λ m. (v, m) ∷ []) (let z : n ≡ n + 0 = omega arith in z)
    numbered-push n (w ∷ ws) v = ap (λ (xs : List Ranked). (w, n) ∷ xs) (numbered-push (n + 1) ws v ∙ ap (λ m. numbered (n + 1) ws ++ (v, m) ∷ []) (let z : n + 1 + length ws ≡ n + suc (length ws) = omega arith in z))

-- a numbered row stands at its number
numbered_at : (n : ℕ) (vs : List Vector) (i : ℕ) (p d : Ranked) → i < length vs → get_or (numbered n vs) i d ≡ p → (p.1 ≡ n + i) × (get_or vs i [] ≡ p.0)
numbered_at n [] i p d h e = absurd (omega (arith, h))
numbered_at n (v ∷ vs) zero p d h e = (ap (λ (q : Ranked). q.1) (sym e) ∙ (let z : n ≡ n + 0 = omega arith in z), ap (λ (q : Ranked). q.0) e)
numbered_at n (v ∷ vs) (suc i) p d h e =
    let r = numbered_at (n + 1) vs i p d (omega (arith, h)) e in
    (omega (arith, r.0), r.1)

-- the numbers are those below how many there are
numbers-numbered : (vs : List Vector) (k : ℕ) → k ≤ length vs → map (λ (p : Ranked). p.1) (numbered 0 (take k vs)) ≡ numbers_below k
numbers-numbered vs zero h = refl
numbers-numbered vs (suc k) h =
    let next : suc k ≡ k + 1 = omega arith in
    ap (λ n. map (λ (p : Ranked). p.1) (numbered 0 (take n vs))) next
    ∙ ap (map (λ (p : Ranked). p.1)) (numbered_more vs k (omega (arith, h)))
    ∙ map-append (λ (p : Ranked). p.1) (numbered 0 (take k vs)) ((get_or vs k [], k) ∷ [])
    ∙ ap (λ (ns : List ℕ). ns ++ k ∷ []) (numbers-numbered vs k (omega (arith, h)))

-- each of them stands once
numbers_once : (vs : List Vector) → EachOnceBelow (length vs) (map (λ (p : Ranked). p.1) (numbered 0 vs))
numbers_once vs =
    let all : numbers_below (length vs) ≡ map (λ (p : Ranked). p.1) (numbered 0 vs) =
    sym (numbers-numbered vs (length vs) (omega arith))
    ∙ ap (λ (ws : List Vector). map (λ (p : Ranked). p.1) (numbered 0 ws)) (take_all (length vs) vs (omega arith)) in
    subst (EachOnceBelow (length vs)) all (each_once-numbers_below (length vs))

-- ---- the rows in order

abbrev pub ranks : List Ranked → List ℕ
ranks ps = map (λ (p : Ranked). p.1) ps

less_from : (v w : Vector) (o rest : Ordering) → o ≡ slice_cmp nat_cmp w v → is_lt (ordering_then o rest) ≡ false → v ≢ w → slice_cmp nat_cmp v w ≡ Less
less_from v w Less rest e h n = cc
less_from v w Equal rest e h n = absurd (n (sym (exact_bytes w v (sym e))))
less_from v w Greater rest e h n = nat_list_cmp_total.antisymm v w ∙ ap ordering_reverse (sym e)

module _ (rows : List Vector) (ps : List Ranked) (different : IsDistinct (pointwise nat_eq) rows) (o : IsInOrder rows ps) where
  -- rows at different numbers differ
  distinct : (i j : ℕ) → i < j → j < length rows → get_or rows i [] ≢ get_or rows j []
  distinct i j low high e =
      let no = apart_from_distinct (pointwise nat_eq) rows i j [] different low high in
      let yes = (bytes_decides (get_or rows i []) (get_or rows j [])).1 e in
      let both : true ≡ false = sym yes ∙ no in
      cc

  length-ps : length ps ≡ length rows
  length-ps = length_permutation (numbered 0 rows) ps o.permutation ∙ length-numbered 0 rows

  ranks_once : EachOnceBelow (length rows) (ranks ps)
  ranks_once = each_once-IsPermutation (length rows) (ranks (numbered 0 rows)) (ranks ps) (IsPermutation-map (λ (p : Ranked). p.1) (numbered 0 rows) ps o.permutation) (numbers_once rows)

  -- a row in order is one of the rows, at its number
  ranked_row : (i : ℕ) (d : Ranked) → i < length ps → ((get_or ps i d).1 < length rows) × (get_or rows (get_or ps i d).1 [] ≡ (get_or ps i d).0)
  ranked_row i d h =
      let p = get_or ps i d in
      let c = Contains-permutation ps (numbered 0 rows) p (IsPermutation-sym (numbered 0 rows) ps o.permutation) (i, h, get_or_default ps i p d h) in
      let low : c.0 < length rows = omega (arith, c.1, length-numbered 0 rows) in
      let r = numbered_at 0 rows c.0 p p low c.2 in
      let same : p.1 ≡ c.0 = omega (arith, r.0) in
      (omega (arith, low, same), ap (λ k. get_or rows k []) same ∙ r.1)

  -- the rows of the ranks are the vectors in order
  row_here : (i : ℕ) → (h : i < length ps) → get_or (rows_at rows (ranks ps)) i [] ≡ (get_or ps i ([], 0)).0
  row_here i h =
      let in_ranks : i < length (ranks ps) = omega (arith, h, length-map ps (λ (p : Ranked). p.1)) in
      get_or-map (λ r. slice_index_or rows r []) (ranks ps) i 0 [] in_ranks
      ∙ ap (λ r. get_or rows r []) (get_or-map (λ (p : Ranked). p.1) ps i ([], 0) 0 h)
      ∙ (ranked_row i ([], 0) h).1

  increasing : IsIncreasing (rows_at rows (ranks ps))
  increasing = sorted_from_all_adjacent nat_list_cmp_total (rows_at rows (ranks ps)) [] adjacent
    where
      adjacent : (k : ℕ) → k + 1 < length (rows_at rows (ranks ps)) → slice_cmp nat_cmp (get_or (rows_at rows (ranks ps)) k []) (get_or (rows_at rows (ranks ps)) (k + 1) []) ≡ Less
      adjacent k h =
          let d : Ranked = ([], 0) in
          let high : k + 1 < length ps = omega (arith, h, length-map (ranks ps) (λ r. slice_index_or rows r []), length-map ps (λ (p : Ranked). p.1)) in
          let low : k < length ps = omega (arith, high) in
          let p = get_or ps k d in
          let q = get_or ps (k + 1) d in
          let row_p = ranked_row k d low in
          let row_q = ranked_row (k + 1) d high in
          let numbers : p.1 ≢ q.1 = (λ e. once-differ (length rows) (ranks ps) ranks_once k (k + 1) (omega arith) (omega (arith, high, length-map ps (λ (p : Ranked). p.1)))
          (get_or-map (λ (p : Ranked). p.1) ps k d 0 low ∙ e ∙ sym (get_or-map (λ (p : Ranked). p.1) ps (k + 1) d 0 high))) in
          let other : p.0 ≢ q.0 = (λ e. ⊎_elim
          (λ below. distinct p.1 q.1 below row_q.0 (row_p.1 ∙ e ∙ sym row_q.1))
          (λ above. let strictly : q.1 < p.1 = at_most p.1 q.1 above numbers in distinct q.1 p.1 strictly row_p.0 (row_q.1 ∙ sym e ∙ sym row_p.1))
          (cases_lt p.1 q.1)) in
          let sorted = o.sorted k d (omega arith) high in
          let less = less_from p.0 q.0 (slice_cmp nat_cmp q.0 p.0) (nat_cmp q.1 p.1) refl sorted other in
          (λ l. slice_cmp nat_cmp (row_here k low l) (row_here (k + 1) high l)) ∙ less
        where
          at_most : (m n : ℕ) → n ≤ m → m ≢ n → n < m
          at_most m n h k = ⊎_elim (λ l. l) (λ g. absurd (k (omega (arith, g, h)))) (cases_lt n m)

  pub ranking : IsRanking rows (ranks ps)
  ranking = record { count = length-map ps (λ (p : Ranked). p.1) ∙ length-ps; once = ranks_once; increasing = increasing }

ranks_are : (rs : List RankedRow) → ranks (map ranked rs) ≡ ranks_of_rows rs
ranks_are [] = refl
ranks_are (r ∷ rs) = ap (λ (ns : List ℕ). r.rank ∷ ns) (ranks_are rs)

-- the ranks of the rows in order
pub ranking_from : (rows : List Vector) (rs : List RankedRow) → IsDistinct (pointwise nat_eq) rows → IsInOrder rows (map ranked rs) → IsRanking rows (ranks_of_rows rs)
ranking_from rows rs different o = subst (IsRanking rows) (ranks_are rs) (ranking rows (map ranked rs) different o)
