-- The workers of all views in the order of their numbers, where some views change.
use Rattle.std.proofs.Common.{◌≡◌, ◌≢◌, ◌⊎◌, inl, inr, ⊎_elim, ℕ, zero, suc, ◌<◌, ◌≤◌, true, List, [], ◌∷◌, ◌++◌, length, map, set, Some, refl, sym, ap, ◌∙◌, subst, arith, length-append}
use Rattle.std.proofs.lemmas.Bool.Decides.{nat_tests}
use Rattle.std.specs.Prelude.{◌==◌, slice_get, Contains}
use Rattle.std.proofs.lemmas.List.Elements.{Contains-append_left, Contains-append_right, Contains-append_cases}
use Rattle.std.proofs.lemmas.List.{length-map, append-nil, append_assoc, map-append}
use mathlib.Core.Option.{some, some-ne-none, some-injective}
use mathlib.Core.Logic.{dite}
use native.Mathlib.Decide.{ℕ_discrete}
use lib.ListN.{get_elem?}
use Rattle.ua_table.specs.Counting.{one_if, total, numbers_below}
use Rattle.ua_table.proofs.Counts.{total-append, total-map, length-numbers_below, one_if-same, one_if-other}
use Rattle.ua_table.proofs.Lists.{Contains-head, Contains-tail, Contains-cases, Contains-none, slice_get-push}
use Rattle.ua_rows.proofs.RowLaws.{at_longer}
use Rattle.ua_log.specs.declared.views.Worker.{Worker}
use Rattle.ua_log.specs.declared.views.View.{View}
use Rattle.ua_log.specs.Boards.{workers}
use Rattle.ua_close.specs.Steps.{Numbered, read, read_all, numbered, worker_at}

-- ---- a list by the numbers below n

module _ {X : Type 0} where
  set_snoc_else : (xs : List X) (a y : X) (k : ℕ) → k ≢ length xs → set (xs ++ a ∷ []) k y ≡ set xs k y ++ a ∷ []
  set_snoc_else [] a y zero n = absurd (n refl)
  set_snoc_else [] a y (suc k) n = refl
  set_snoc_else (x ∷ xs) a y zero n = refl
  set_snoc_else (x ∷ xs) a y (suc k) n = ap (λ l. x ∷ l) (set_snoc_else xs a y k (λ e. n (ap suc e)))

  set_snoc_here : (xs : List X) (a y : X) (k : ℕ) → k ≡ length xs → set (xs ++ a ∷ []) k y ≡ set xs k y ++ y ∷ []
  set_snoc_here [] a y zero e = refl
  set_snoc_here [] a y (suc k) e = absurd (omega (arith, e))
  set_snoc_here (x ∷ xs) a y zero e = absurd (omega (arith, e))
  set_snoc_here (x ∷ xs) a y (suc k) e = ap (λ l. x ∷ l) (set_snoc_here xs a y k (omega (arith, e)))

  pub by_number : (f g : ℕ → X) (n k : ℕ) (y : X) → ((j : ℕ) → j < n → j ≢ k → g j ≡ f j) → g k ≡ y → map g (numbers_below n) ≡ set (map f (numbers_below n)) k y
  by_number f g zero k y same here = refl
  by_number f g (suc n) k y same here =
      let long : length (map f (numbers_below n)) ≡ n = length-map (numbers_below n) f ∙ length-numbers_below n in
      let rest : map g (numbers_below n) ≡ set (map f (numbers_below n)) k y = by_number f g n k y (λ j lt. same j (omega (arith, lt))) here in
      dite (ℕ_discrete k n)
      (λ e.
      let last : g n ≡ y = ap g (sym e) ∙ here in
      map-append g (numbers_below n) (n ∷ []) ∙ ap (λ l. l ++ g n ∷ []) rest ∙ ap (λ z. set (map f (numbers_below n)) k y ++ z ∷ []) last ∙
      sym (ap (λ l. set l k y) (map-append f (numbers_below n) (n ∷ [])) ∙ set_snoc_here (map f (numbers_below n)) (f n) y k (e ∙ sym long)))
      (λ n'.
      let last : g n ≡ f n = same n (omega arith) (λ e. n' (sym e)) in
      map-append g (numbers_below n) (n ∷ []) ∙ ap (λ l. l ++ g n ∷ []) rest ∙ ap (λ z. set (map f (numbers_below n)) k y ++ z ∷ []) last ∙
      sym (ap (λ l. set l k y) (map-append f (numbers_below n) (n ∷ [])) ∙ set_snoc_else (map f (numbers_below n)) (f n) y k (λ e. n' (e ∙ long))))

  pub by_number_same : (f g : ℕ → X) (n : ℕ) → ((j : ℕ) → j < n → g j ≡ f j) → map g (numbers_below n) ≡ map f (numbers_below n)
  by_number_same f g zero same = refl
  by_number_same f g (suc n) same =
      map-append g (numbers_below n) (n ∷ []) ∙ ap (λ l. l ++ g n ∷ []) (by_number_same f g n (λ j lt. same j (omega (arith, lt)))) ∙
      ap (λ z. map f (numbers_below n) ++ z ∷ []) (same n (omega arith)) ∙ sym (map-append f (numbers_below n) (n ∷ []))

  pub number_at : (f : ℕ → X) (n k : ℕ) → k < n → slice_get (map f (numbers_below n)) k ≡ Some (f k)
  number_at f zero k lt = absurd (omega (arith, lt))
  number_at f (suc n) k lt =
      let long : length (map f (numbers_below n)) ≡ n = length-map (numbers_below n) f ∙ length-numbers_below n in
      ap (λ l. slice_get l k) (map-append f (numbers_below n) (n ∷ [])) ∙
      dite (ℕ_discrete k n)
      (λ e. let q : k ≡ length (map f (numbers_below n)) = e ∙ sym long in
      ap (slice_get (map f (numbers_below n) ++ f n ∷ [])) q ∙ slice_get-push (map f (numbers_below n)) (f n) ∙ ap (λ j. Some (f j)) (sym e))
      (λ n'. at_longer (map f (numbers_below n)) (f n ∷ []) k (f k) (number_at f n k (omega (arith, lt, n'))))

  pub map_more : (f : ℕ → X) (n : ℕ) → map f (numbers_below (suc n)) ≡ map f (numbers_below n) ++ f n ∷ []
  map_more f n = map-append f (numbers_below n) (n ∷ [])

-- ---- the worker of a number

-- an entry has the number
abbrev pub has : ℕ → Numbered → ℕ
has n e = one_if (e.number == n)

pub worker_here : (e : Numbered) (es : List Numbered) (n : ℕ) → e.number ≡ n → worker_at (e ∷ es) n ≡ e.worker
worker_here e es n is = grind (arith, nat_tests)

pub worker_else : (e : Numbered) (es : List Numbered) (n : ℕ) → e.number ≢ n → worker_at (e ∷ es) n ≡ worker_at es n
worker_else e es n is = grind (arith, nat_tests)

pub counted_in : (es : List Numbered) (e : Numbered) → Contains es e → 1 ≤ total (has e.number) es
counted_in [] e c = absurd (Contains-none e c)
counted_in (x ∷ xs) e c = ⊎_elim
    (λ (same : x ≡ e). let a = one_if-same e.number x.number (ap (λ (y : Numbered). y.number) same) in omega (arith, a))
    (λ rest. let a = counted_in xs e rest in omega (arith, a))
    (Contains-cases x e xs c)

-- a number that is counted stands in the list with its worker
pub entry_of : (es : List Numbered) (n : ℕ) → 0 < total (has n) es → Contains es (record { number = n; worker = worker_at es n })
entry_of [] n more = absurd (omega (arith, more))
entry_of (e ∷ es) n more = dite (ℕ_discrete e.number n)
    (λ is. let same : e ≡ record { number = n; worker = worker_at (e ∷ es) n } = λ i. record { number = is i; worker = sym (worker_here e es n is) i } in
    subst (Contains (e ∷ es)) same (Contains-head e es))
    (λ other. let a = one_if-other n e.number other in
    let r = entry_of es n (omega (arith, more, a)) in
    let same : record { number = n; worker = worker_at es n } ≡ record { number = n; worker = worker_at (e ∷ es) n } = λ i. record { number = n; worker = sym (worker_else e es n other) i } in
    subst (Contains (e ∷ es)) same (Contains-tail e (record { number = n; worker = worker_at es n }) es r))

-- and where it is counted once, no other worker stands there under it
pub worker_is : (es : List Numbered) (e : Numbered) → Contains es e → total (has e.number) es ≤ 1 → worker_at es e.number ≡ e.worker
worker_is [] e c once = absurd (Contains-none e c)
worker_is (x ∷ xs) e c once = ⊎_elim
    (λ (same : x ≡ e). worker_here x xs e.number (ap (λ (y : Numbered). y.number) same) ∙ ap (λ (y : Numbered). y.worker) same)
    (λ rest. let a = counted_in xs e rest in
    worker_else x xs e.number (λ is. let b = one_if-same e.number x.number is in absurd (omega (arith, a, b, once))) ∙ worker_is xs e rest (omega (arith, once)))
    (Contains-cases x e xs c)

-- a worker with no such number changes nothing
pub worker_more : (es : List Numbered) (e : Numbered) (n : ℕ) → e.number ≢ n → worker_at (es ++ e ∷ []) n ≡ worker_at es n
worker_more [] e n other = worker_else e [] n other
worker_more (x ∷ xs) e n other = dite (ℕ_discrete x.number n)
    (λ is. worker_here x (xs ++ e ∷ []) n is ∙ sym (worker_here x xs n is))
    (λ no. worker_else x (xs ++ e ∷ []) n no ∙ worker_more xs e n other ∙ sym (worker_else x xs n no))

-- ---- the workers of the views are counted as they are

abbrev pub number_is : ℕ → Worker → ℕ
number_is n w = one_if (w.number == n)

total_kept : (n : ℕ) (ws : List Worker) → total (has n) (map (read true) ws) ≡ total (number_is n) ws
total_kept n ws = total-map (read true) (has n) ws

pub total_all : (n : ℕ) (ws : List Worker) → total (has n) (read_all ws) ≡ total (number_is n) ws
total_all n [] = refl
total_all n (w ∷ ws) = let a = total_kept n ws in omega (arith, a)

pub total_read : (n : ℕ) (vs : List View) → total (has n) (numbered vs) ≡ total (number_is n) (workers vs)
total_read n [] = refl
total_read n (v ∷ vs) = omega (arith, total-append (has n) (read_all v.all) (numbered vs), total-append (number_is n) v.all (workers vs), total_all n v.all, total_read n vs)

pub length_all : (ws : List Worker) → length (read_all ws) ≡ length ws
length_all [] = refl
length_all (w ∷ ws) = ap suc (length-map ws (read true))

pub length_read : (vs : List View) → length (numbered vs) ≡ length (workers vs)
length_read [] = refl
length_read (v ∷ vs) = omega (arith, length-append (read_all v.all) (numbered vs), length-append v.all (workers vs), length_all v.all, length_read vs)

-- ---- entries of a changed view

pub entries_in : (vs : List View) (i : ℕ) (v : View) (e : Numbered) → get_elem? vs i ≡ some v → Contains (read_all v.all) e → Contains (numbered vs) e
entries_in [] i v e at c = absurd (some-ne-none v (sym at))
entries_in (u ∷ vs) zero v e at c = Contains-append_left (read_all u.all) (numbered vs) e (subst (λ (x : View). Contains (read_all x.all) e) (sym (some-injective u v at)) c)
entries_in (u ∷ vs) (suc i) v e at c = Contains-append_right (read_all u.all) (numbered vs) e (entries_in vs i v e at c)

pub entries_new : (vs : List View) (i : ℕ) (v w : View) (e : Numbered) → get_elem? vs i ≡ some v → Contains (read_all w.all) e → Contains (numbered (set vs i w)) e
entries_new [] i v w e at c = absurd (some-ne-none v (sym at))
entries_new (u ∷ vs) zero v w e at c = Contains-append_left (read_all w.all) (numbered vs) e c
entries_new (u ∷ vs) (suc i) v w e at c = Contains-append_right (read_all u.all) (numbered (set vs i w)) e (entries_new vs i v w e at c)

-- an entry is one of the view that was changed, or stays
pub entries_moved : (vs : List View) (i : ℕ) (v w : View) (e : Numbered) → get_elem? vs i ≡ some v → Contains (numbered vs) e → Contains (read_all v.all) e ⊎ Contains (numbered (set vs i w)) e
entries_moved [] i v w e at c = absurd (some-ne-none v (sym at))
entries_moved (u ∷ vs) zero v w e at c = ⊎_elim
    (λ here. inl (subst (λ (x : View). Contains (read_all x.all) e) (some-injective u v at) here))
    (λ rest. inr (Contains-append_right (read_all w.all) (numbered vs) e rest))
    (Contains-append_cases (read_all u.all) (numbered vs) e c)
entries_moved (u ∷ vs) (suc i) v w e at c = ⊎_elim
    (λ here. inr (Contains-append_left (read_all u.all) (numbered (set vs i w)) e here))
    (λ rest. ⊎_elim (λ a. inl a) (λ b. inr (Contains-append_right (read_all u.all) (numbered (set vs i w)) e b)) (entries_moved vs i v w e at rest))
    (Contains-append_cases (read_all u.all) (numbered vs) e c)

pub numbered_more : (vs : List View) (w : View) → numbered (vs ++ w ∷ []) ≡ numbered vs ++ read_all w.all
numbered_more [] w = append-nil (read_all w.all)
numbered_more (u ∷ vs) w = ap (λ l. read_all u.all ++ l) (numbered_more vs w) ∙ sym (append_assoc (read_all u.all) (numbered vs) (read_all w.all))
