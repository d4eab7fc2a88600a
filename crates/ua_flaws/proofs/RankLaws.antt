-- As many ranks as rows, each below their number and none twice, are those numbers, each once.
use Rattle.std.proofs.Common.{◌≡◌, ◌≢◌, ℕ, suc, ◌+◌, ◌<◌, ◌≤◌, Bool, true, false, not, ◌&&◌, ◌||◌, Option, Some, None, List, [], ◌∷◌, ◌++◌, length, take, drop, set, get_or, refl, sym, ap, ◌∙◌, arith, ⊎_elim}
use Rattle.std.specs.Prelude.{slice_get, slice_index_or, Contains, nat_lt, ◌==◌}
use Rattle.std.specs.List.{AllByRecursion, list_any}
use Rattle.std.proofs.lemmas.Bool.{cases_lt, or_parts}
use Rattle.std.proofs.lemmas.Bool.Decides.{nat_tests}
use Rattle.ua_table.specs.Algebras.{Vector}
use Rattle.ua_table.specs.Counting.{one_if, total, times, EachOnceBelow, numbers_below}
use Rattle.ua_table.proofs.Counts.{total-plus, total-zero, one_if-same, one_if-other, once_in, once_out, each_once-numbers_below, length-numbers_below, each_once-below}
use Rattle.ua_table.proofs.Lists.{Contains-cases, Contains-none, all_from_contains, all_from_places}
use Rattle.std.proofs.lemmas.List.{take_all, take_more, get_or-set_same, get_or-set_other, get_or-take}
use Rattle.std.specs.Option.{option_map}
use Rattle.ua_flaws.specs.declared.flaws.Flaw.TheVariants as flaw
use Rattle.ua_flaws.specs.Firsts.{first_bad}
use Rattle.ua_flaws.specs.Flaws.{is_rank, first_or_short, ranks_flaw}
use Rattle.ua_flaws.proofs.FirstLaws.{bad_here, bad_later, both, not_true, each_good, option_none, first_none, like_lengths, taken_long}

-- ---- a number stands there at most once

at_most_once : (n : ℕ) (xs before : List ℕ) (k : ℕ) → ((i : ℕ) (x : ℕ) → slice_get xs i ≡ Some x → times x (take i xs) ≡ 0) → times k xs ≤ 1
at_most_once n xs before k h = up_to (length xs) xs h
  where
    -- where k stands first, it stands nowhere after
    none_after : (ys : List ℕ) → ((i : ℕ) (x : ℕ) → slice_get ys i ≡ Some x → x ≢ k) → times k ys ≡ 0
    none_after [] g = refl
    none_after (y ∷ ys) g =
        let here = one_if-other k y (g 0 y refl) in
        let rest = none_after ys (λ i x e. g (suc i) x e) in
        omega (arith, here, rest)

    up_to : (m : ℕ) (ys : List ℕ) → ((i : ℕ) (x : ℕ) → slice_get ys i ≡ Some x → times x (take i ys) ≡ 0) → times k ys ≤ 1
    up_to m [] g = omega arith
    up_to m (y ∷ ys) g =
        elim (y == k) as (λ b. (y == k) ≡ b → times k (y ∷ ys) ≤ 1) [
          | true ↦ λ e.
              let same : y ≡ k = (grind (arith, nat_tests)) in
              let one = one_if-same k y same in
              let apart : (i : ℕ) (x : ℕ) → slice_get ys i ≡ Some x → x ≢ k = λ i x at is. (let none : one_if (y == x) + times x (take i ys) ≡ 0 = g (suc i) x at in let o = one_if-same x y (same ∙ sym is) in omega (arith, none, o)) in
              let rest = none_after ys apart in
              omega (arith, one, rest)
          | false ↦ λ e.
              let other : y ≢ k = (λ s. grind (arith, nat_tests)) in
              let here = one_if-other k y other in
              let later : (i : ℕ) (x : ℕ) → slice_get ys i ≡ Some x → times x (take i ys) ≡ 0 = λ i x at. (let none : one_if (y == x) + times x (take i ys) ≡ 0 = g (suc i) x at in omega (arith, none)) in
              let rest = up_to m ys later in
              omega (arith, here, rest)
        ] refl

-- ---- how often all numbers below n stand there together

together : (n : ℕ) (xs : List ℕ) → AllByRecursion (λ x. x < n) xs → total (λ k. times k xs) (numbers_below n) ≡ length xs
together n [] h = total-zero (λ (k : ℕ). 0) (numbers_below n) (all_from_contains (λ (k : ℕ). 0 ≡ 0) (numbers_below n) (λ x c. refl))
together n (x ∷ xs) h =
    let plus = total-plus (λ k. one_if (x == k)) (λ k. times k xs) (numbers_below n) in
    let here : total (λ k. one_if (x == k)) (numbers_below n) ≡ times x (numbers_below n) = turned (numbers_below n) in
    let once = each_once-numbers_below n x in
    let one = once_in n x h.0 in
    let rest = together n xs h.1 in
    omega (arith, plus, here, once, one, rest)
  where
    swapped : (k : ℕ) → one_if (x == k) ≡ one_if (k == x)
    swapped k = grind (arith, nat_tests)

    turned : (ks : List ℕ) → total (λ k. one_if (x == k)) ks ≡ times x ks
    turned [] = refl
    turned (k ∷ ks) = let a = swapped k in let b = turned ks in omega (arith, a, b)

-- parts of at most 1 that make as much as there are of them are each 1
total_low : (f : ℕ → ℕ) (ks : List ℕ) → ((k : ℕ) → f k ≤ 1) → total f ks ≤ length ks
total_low f [] h = omega arith
total_low f (k ∷ ks) h = let a = h k in let b = total_low f ks h in omega (arith, a, b)

each_one : (f : ℕ → ℕ) (ks : List ℕ) → ((k : ℕ) → f k ≤ 1) → total f ks ≡ length ks → (k : ℕ) → Contains ks k → f k ≡ 1
each_one f [] h e k c = absurd (Contains-none k c)
each_one f (j ∷ ks) h e k c =
    let a = h j in let b = total_low f ks h in
    ⊎_elim (λ same. ap f (sym same) ∙ (omega (arith, a, b, e)))
    (λ rest. each_one f ks h (omega (arith, a, b, e)) k rest)
    (Contains-cases j k ks c)

each_once : (n : ℕ) (xs : List ℕ) → length xs ≡ n → AllByRecursion (λ x. x < n) xs → ((k : ℕ) → times k xs ≤ 1) → EachOnceBelow n xs
each_once n xs count low once k = ⊎_elim
    (λ below.
    let all = together n xs low in
    let there = each_one (λ j. times j xs) (numbers_below n) once (all ∙ count ∙ sym (length-numbers_below n)) k ((each_once-below n (numbers_below n) (each_once-numbers_below n) k).1 below) in
    there ∙ sym (once_in n k below))
    (λ above. nowhere xs low above ∙ sym (once_out n k above))
    (cases_lt k n)
  where
    nowhere : (ys : List ℕ) → AllByRecursion (λ x. x < n) ys → n ≤ k → times k ys ≡ 0
    nowhere [] h a = refl
    nowhere (y ∷ ys) h a =
        let l = h.0 in
        let other : y ≢ k = (λ s. omega (arith, l, a, s)) in
        let here = one_if-other k y other in
        let rest = nowhere ys h.1 a in
        omega (arith, here, rest)

-- ---- from the test

not_before : (x : ℕ) (xs : List ℕ) → list_any (λ y. y == x) xs ≡ false → times x xs ≡ 0
not_before x [] h = refl
not_before x (y ∷ ys) h =
    let parts = or_parts (y == x) (list_any (λ z. z == x) ys) h in
    let other : y ≢ x = apart y parts.0 in
    let here = one_if-other x y other in
    let rest = not_before x ys parts.1 in
    omega (arith, here, rest)
  where
    apart : (z : ℕ) → (z == x) ≡ false → z ≢ x
    apart z e s = grind (arith, nat_tests)

-- as many ranks as rows, each once
pub record RanksOf (rows : List Vector) (ranks : List ℕ) : Type 0 where
  pub count : length rows ≡ length ranks
  pub once : EachOnceBelow (length rows) ranks

pub ranks_once : (rows : List Vector) (ranks : List ℕ) → ranks_flaw rows ranks ≡ None → RanksOf rows ranks
ranks_once rows ranks none =
    let parts = first_none _ _ (option_none _ _ none) in
    let count : length rows ≡ length ranks = like_lengths (length rows) (length ranks) (first_none _ _ parts.1).0 in
    let whole : take (length rows) ranks ≡ ranks = ap (λ n. take n ranks) count ∙ take_all (length ranks) ranks (omega arith) in
    let fine : first_bad (is_rank (length rows) ranks) 0 ranks ≡ None = ap (first_bad (is_rank (length rows) ranks) 0) (sym whole) ∙ parts.0 in
    let good : (i x : ℕ) → slice_get ranks i ≡ Some x → is_rank (length rows) ranks i x ≡ true =
    λ i x at.
    (let z : 0 + i ≡ i = omega arith in
    ap (λ k. is_rank (length rows) ranks k x) (sym z) ∙ each_good (is_rank (length rows) ranks) 0 ranks fine i x at) in
    record {
      count = count;
      once = each_once (length rows) ranks (sym count)
          (all_from_places (λ x. x < length rows) ranks (λ i x at. below x (both _ _ (good i x at)).0))
          (λ k. at_most_once (length rows) ranks ranks k (λ i x at. not_before x (take i ranks) (not_true _ (both _ _ (good i x at)).1)));
    }
  where
    below : (x : ℕ) → nat_lt x (length rows) ≡ true → x < length rows
    below x t = grind (arith, nat_tests)

-- ---- marks of the ranks so far

abbrev pub AreMarks : ℕ → List Bool → List ℕ → Type 0
AreMarks n marks xs = (k : ℕ) → k < n → slice_index_or marks k false ≡ list_any (λ x. x == k) xs

pub fresh_is : (n : ℕ) (marks : List Bool) (ranks : List ℕ) (i x : ℕ) → length marks ≡ n → AreMarks n marks (take i ranks) → (nat_lt x (length marks) && not (slice_index_or marks x false)) ≡ is_rank n ranks i x
fresh_is n marks ranks i x e m = ap (λ k. nat_lt x k && not (slice_index_or marks x false)) e ∙ cases (nat_lt x n) refl
  where
    low : nat_lt x n ≡ true → x < n
    low t = grind (arith, nat_tests)

    cases : (b : Bool) → nat_lt x n ≡ b → (b && not (slice_index_or marks x false)) ≡ (b && not (list_any (λ y. y == x) (take i ranks)))
    cases true t = ap not (m x (low t))
    cases false t = refl

any-push : (k : ℕ) (xs : List ℕ) (x : ℕ) → list_any (λ y. y == k) (xs ++ x ∷ []) ≡ (list_any (λ y. y == k) xs || (x == k))
any-push k [] x = elim (x == k) as (λ b. (b || false) ≡ (false || b)) [ true ↦ refl | false ↦ refl ]
any-push k (y ∷ ys) x = elim (y == k) as (λ b. (b || list_any (λ z. z == k) (ys ++ x ∷ [])) ≡ ((b || list_any (λ z. z == k) ys) || (x == k))) [ true ↦ refl | false ↦ any-push k ys x ]

pub marks_more : (n : ℕ) (marks : List Bool) (ranks : List ℕ) (i x : ℕ) → length marks ≡ n → i < length ranks → x ≡ get_or ranks i 0 → AreMarks n marks (take i ranks) → AreMarks n (set marks x true) (take (i + 1) ranks)
marks_more n marks ranks i x e h at m k low =
    let taken : take (i + 1) ranks ≡ take i ranks ++ x ∷ [] = take_more ranks i 0 h ∙ ap (λ y. take i ranks ++ y ∷ []) (sym at) in
    cases (x == k) refl ∙ sym (ap (list_any (λ y. y == k)) taken ∙ any-push k (take i ranks) x)
  where
    same : (x == k) ≡ true → x ≡ k
    same t = grind (arith, nat_tests)

    other : (x == k) ≡ false → x ≢ k
    other t s = grind (arith, nat_tests)

    or_true : (b : Bool) → true ≡ (b || true)
    or_true true = refl
    or_true false = refl

    or_false : (b : Bool) → b ≡ (b || false)
    or_false true = refl
    or_false false = refl

    cases : (b : Bool) → (x == k) ≡ b → slice_index_or (set marks x true) k false ≡ (list_any (λ y. y == k) (take i ranks) || b)
    cases true t = ap (λ j. slice_index_or (set marks j true) k false) (same t) ∙ get_or-set_same marks k true false (omega (arith, e, low)) ∙ or_true (list_any (λ y. y == k) (take i ranks))
    cases false t = get_or-set_other marks x k true false (λ s. other t (sym s)) ∙ m k low ∙ or_false (list_any (λ y. y == k) (take i ranks))

module _ (rows : List Vector) (ranks : List ℕ) where
  abbrev pub bad_ranks_from : ℕ → Option ℕ
  bad_ranks_from i = first_bad (is_rank (length rows) ranks) i (drop i (take (length rows) ranks))

  pub rank_bad : (i x : ℕ) → i < length rows → i < length ranks → x ≡ get_or ranks i 0 → is_rank (length rows) ranks i x ≡ false
      → first_bad (is_rank (length rows) ranks) 0 (take (length rows) ranks) ≡ bad_ranks_from i → ranks_flaw rows ranks ≡ Some (flaw.Rank i)
  rank_bad i x h l at bad rest =
      let here = bad_here (is_rank (length rows) ranks) (take (length rows) ranks) i x 0 (taken_long (length rows) ranks i h l) (at ∙ sym (get_or-take (length rows) ranks i 0 h)) bad in
      ap (λ o. option_map flaw.Rank (first_or_short o (length rows) (length ranks))) (rest ∙ here)

  pub rank_good : (i x : ℕ) → i < length rows → i < length ranks → x ≡ get_or ranks i 0 → is_rank (length rows) ranks i x ≡ true
      → first_bad (is_rank (length rows) ranks) 0 (take (length rows) ranks) ≡ bad_ranks_from i
      → first_bad (is_rank (length rows) ranks) 0 (take (length rows) ranks) ≡ bad_ranks_from (i + 1)
  rank_good i x h l at good rest =
      rest ∙ bad_later (is_rank (length rows) ranks) (take (length rows) ranks) i x 0 (taken_long (length rows) ranks i h l) (at ∙ sym (get_or-take (length rows) ranks i 0 h)) good
