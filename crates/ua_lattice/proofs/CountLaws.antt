-- How many lower covers a place has.
use Rattle.std.proofs.Common.{◌≡◌, ◌≢◌, ℕ, ◌+◌, ◌<◌, ◌≤◌, List, [], ◌∷◌, ◌++◌, length, map, set, take, get_or, replicate, sym, ap, ◌∙◌, subst, arith, ⊎_elim}
use Rattle.std.specs.Prelude.{◌==◌, ◌↔◌, Contains}
use Rattle.std.specs.List.{AllByRecursion, filter, range_with_len}
use Rattle.std.specs.List.Sorted.{IsStrictlyIncreasing}
use Rattle.std.proofs.lemmas.Bool.{cases_lt, cases_eq, eq-eqb, ne_eqb, eqb-true}
use Rattle.std.proofs.lemmas.List.{length-set, get_or-set_same, get_or-set_other, length-replicate, get_or-replicate, length-take-le, take_all}
use Rattle.std.proofs.lemmas.List.FromFn.{fill_by_all}
use Rattle.std.proofs.lemmas.List.Sums.{count_by-le-length, length-filter, count_by_more_yes, count_by_more_no}
use Rattle.std.proofs.lemmas.List.Elements.{Contains-get_or, Contains-push, Contains-append_left, Contains-push_cases}
use Rattle.ua_table.proofs.Lists.{all_at}
use Rattle.ua_part.proofs.RelatedLaws.{passed_from}
use Rattle.ua_lattice.specs.Lattices.{AreIrreducible, lower_covers}
use Rattle.ua_lattice.proofs.LeastLaws.{increasing_push}

-- ---- counts

-- how often each of the first n places stands above in the first k pairs
pub record AreCounted (covers : List (ℕ × ℕ)) (n k : ℕ) (counts : List ℕ) : Type 0 where
  pub size : length counts ≡ n
  pub counted : (j : ℕ) → j < n → get_or counts j 0 ≡ lower_covers (take k covers) j

pub counted_none : (covers : List (ℕ × ℕ)) (n : ℕ) (counts : List ℕ) → counts ≡ replicate n 0 → AreCounted covers n 0 counts
counted_none covers n counts is = record { size = ap length is ∙ length-replicate n 0; counted = λ j w. ap (λ (xs : List ℕ). get_or xs j 0) is ∙ get_or-replicate n j 0 0 w }

-- a count is at most the number of pairs
pub counted_low : (covers : List (ℕ × ℕ)) (n k : ℕ) (counts : List ℕ) (j : ℕ) → AreCounted covers n k counts → j < n → k ≤ length covers → get_or counts j 0 ≤ k
counted_low covers n k counts j h w few =
    let is = h.counted j w in
    let low = count_by-le-length (λ (pair : ℕ × ℕ). pair.1 == j) (take k covers) in
    let long = length-take-le k covers few in
    omega (arith, is, low, long)

pub counted_all : (covers : List (ℕ × ℕ)) (n k : ℕ) (counts : List ℕ) → AreCounted covers n k counts → length covers ≤ k → counts ≡ map (lower_covers covers) (range_with_len 0 n)
counted_all covers n k counts h all = fill_by_all (lower_covers covers) counts n 0 h.size (λ j w. h.counted j w ∙ ap (λ (ps : List (ℕ × ℕ)). lower_covers ps j) (take_all k covers all))

module _ (covers : List (ℕ × ℕ)) (n k : ℕ) (counts : List ℕ) (h : AreCounted covers n k counts) (w : k < length covers) (above : ℕ) (is : above ≡ (get_or covers k (0, 0)).1) (low : above < n) where
  pub counted_more : AreCounted covers n (k + 1) (set counts above (get_or counts above 0 + 1))
  counted_more = record { size = length-set counts above (get_or counts above 0 + 1) ∙ h.size; counted = counted }
    where
      counted : (j : ℕ) → j < n → get_or (set counts above (get_or counts above 0 + 1)) j 0 ≡ lower_covers (take (k + 1) covers) j
      counted j wj =
          ⊎_elim
          (λ same.
          let there = get_or-set_same counts j (get_or counts j 0 + 1) 0 (let s = h.size in omega (arith, wj, s)) in
          let more = count_by_more_yes (λ (pair : ℕ × ℕ). pair.1 == j) covers k (0, 0) w (eq-eqb (get_or covers k (0, 0)).1 j (sym is ∙ sym same)) in
          let old = h.counted j wj in
          subst (λ a. get_or (set counts a (get_or counts a 0 + 1)) j 0 ≡ lower_covers (take (k + 1) covers) j) same (omega (arith, there, more, old)))
          (λ apart.
          let there = get_or-set_other counts above j (get_or counts above 0 + 1) 0 apart in
          let more = count_by_more_no (λ (pair : ℕ × ℕ). pair.1 == j) covers k (0, 0) w (ne_eqb (get_or covers k (0, 0)).1 j (λ e. apart (sym (is ∙ e)))) in
          let old = h.counted j wj in
          omega (arith, there, more, old))
          (cases_eq j above)

-- ---- what is counted

-- what stands above in a pair is one of the places
pub counted_within : (covers : List (ℕ × ℕ)) (n j : ℕ) → AllByRecursion (λ (pair : ℕ × ℕ). pair.1 < n) covers → lower_covers covers j ≡ 1 → j < n
counted_within covers n j within one =
    let many = length-filter (λ (pair : ℕ × ℕ). pair.1 == j) covers in
    let first = get_or (filter (λ (pair : ℕ × ℕ). pair.1 == j) covers) 0 (0, 0) in
    let x = passed_from (λ (pair : ℕ × ℕ). pair.1 == j) first covers (Contains-get_or (filter (λ (pair : ℕ × ℕ). pair.1 == j) covers) 0 (0, 0) (omega (arith, many, one))) in
    subst (λ (i : ℕ). i < n) (eqb-true first.1 j x.1) (all_at (λ (pair : ℕ × ℕ). pair.1 < n) covers first within x.0)

-- ---- the irreducible ones

-- of the first n
pub record AreIrreducibleOfFirst (covers : List (ℕ × ℕ)) (n : ℕ) (places : List ℕ) : Type 0 where
  pub in_order : IsStrictlyIncreasing places
  pub all : (m : ℕ) → Contains places m ↔ ((m < n) × (lower_covers covers m ≡ 1))

module _ (covers : List (ℕ × ℕ)) (n : ℕ) (places : List ℕ) (h : AreIrreducibleOfFirst covers n places) where
  pub irreducible_yes : lower_covers covers n ≡ 1 → AreIrreducibleOfFirst covers (n + 1) (places ++ n ∷ [])
  irreducible_yes one = record {
    in_order = increasing_push places n h.in_order (λ m c. ((h.all m).0 c).0);
    all = λ m. (
      (λ c. ⊎_elim (λ old. let b = (h.all m).0 old in let low = b.0 in (omega (arith, low), b.1)) (λ is. (omega (arith, is), ap (lower_covers covers) (sym is) ∙ one)) (Contains-push_cases places n m c)),
      (λ both.
          ⊎_elim (λ low. Contains-append_left places (n ∷ []) m ((h.all m).1 (low, both.1)))
          (λ high. let w = both.0 in let is : n ≡ m = omega (arith, w, high) in subst (Contains (places ++ n ∷ [])) is (Contains-push places n))
          (cases_lt m n)),
    );
  }

  pub irreducible_no : lower_covers covers n ≢ 1 → AreIrreducibleOfFirst covers (n + 1) places
  irreducible_no more = record {
    in_order = h.in_order;
    all = λ m. (
      (λ c. let b = (h.all m).0 c in let low = b.0 in (omega (arith, low), b.1)),
      (λ both. ⊎_elim (λ low. (h.all m).1 (low, both.1)) (λ high. let w = both.0 in let is : m ≡ n = omega (arith, w, high) in absurd (more (ap (lower_covers covers) (sym is) ∙ both.1))) (cases_lt m n)),
    );
  }

  pub irreducible_all : AllByRecursion (λ (pair : ℕ × ℕ). pair.1 < n) covers → AreIrreducible covers places
  irreducible_all within = record {
    in_order = h.in_order;
    all = λ j. (λ c. ((h.all j).0 c).1, λ one. (h.all j).1 (counted_within covers n j within one, one));
  }
