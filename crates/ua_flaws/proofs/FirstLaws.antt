-- The first item that fails a test, as a loop finds it and as a proof reads it; and the first of some refusals.
use Rattle.std.proofs.Common.{◌≡◌, ℕ, zero, suc, ◌+◌, ◌<◌, ◌≤◌, Bool, true, false, not, ◌&&◌, cond, Option, Some, None, List, [], ◌∷◌, ◌++◌, map, length, take, drop, get_or, refl, sym, ap, ◌∙◌, arith, ⊎_elim}
use Rattle.std.specs.Prelude.{Contains, slice_get, IfSome, IfNone, is_some, find, nat_lt, min, ◌==◌}
use Rattle.std.specs.List.{AllByRecursion, list_all}
use Rattle.std.specs.Option.{option_map}
use Rattle.std.specs.Cmp.Lexicographic.{bytes_decides, nat_list_eq_equiv}
use Rattle.std.proofs.lemmas.Bool.Decides.{nat_tests}
use Rattle.std.proofs.lemmas.List.{take_more, map-append, drop_all}
use Rattle.std.proofs.lemmas.Map.Views.{Contains-from_any, list_any-from_Contains}
use Rattle.std.proofs.Math.Seq.{drop-cons}
use Rattle.std.proofs.lemmas.Option.{slice_get_read}
use Rattle.ua_table.specs.Algebras.{Vector}
use Rattle.ua_table.specs.Refusals.{refusal_if, first_refusal}
use Rattle.ua_table.proofs.Lists.{Contains-slice_get, Contains-cases, Contains-none, found, all_take_more}
use Rattle.ua_flaws.specs.Firsts.{first_bad, unlike_lengths, is_same, is_among}

-- ---- tests

pub both : (b c : Bool) → (b && c) ≡ true → (b ≡ true) × (c ≡ true)
both true c e = (refl, e)
both false c e = cc

pub not_false : (b : Bool) → not b ≡ false → b ≡ true
not_false true e = refl
not_false false e = cc

pub not_true : (b : Bool) → not b ≡ true → b ≡ false
not_true false e = refl
not_true true e = cc

pub some_length : (n : ℕ) → (n == 0) ≡ false → 0 < n
some_length n z = grind (arith, nat_tests)

pub same_is : (v w : Vector) → is_same v w ≡ true → v ≡ w
same_is v w e = (bytes_decides v w).0 e

pub among_is : (vs : List Vector) (v : Vector) → is_among vs v ≡ true → Contains vs v
among_is vs v e = Contains-from_any (λ x y. (bytes_decides x y).0) v vs e

-- what a look-up says of the test
pub looked_up : (vs : List Vector) (v : Vector) (o : Option ℕ) → IfSome o (λ i. slice_get vs i ≡ Some v) → IfNone o (Contains vs v → ⊥) → is_some o ≡ is_among vs v
looked_up vs v (Some i) found absent = sym (list_any-from_Contains nat_list_eq_equiv v vs (Contains-slice_get vs i v found))
looked_up vs v None found absent = cases (is_among vs v) refl
  where
    cases : (b : Bool) → is_among vs v ≡ b → false ≡ b
    cases false e = refl
    cases true e = absurd (absent (among_is vs v e))

pub all_below : (n : ℕ) (xs : List ℕ) → list_all (λ x. nat_lt x n) xs ≡ true → AllByRecursion (λ x. x < n) xs
all_below n [] e = tt
all_below n (x ∷ xs) e = let h = both (nat_lt x n) (list_all (λ y. nat_lt y n) xs) e in (below x h.0, all_below n xs h.1)
  where
    below : (y : ℕ) → nat_lt y n ≡ true → y < n
    below y t = grind (arith, nat_tests)

-- one more of a mapped list
pub map_more : {X Y : Type 0} (f : X → Y) (xs : List X) (i : ℕ) (x : X) → i < length xs → x ≡ get_or xs i x → map f (take (i + 1) xs) ≡ map f (take i xs) ++ f x ∷ []
map_more f xs i x h e = ap (map f) (take_more xs i x h ∙ ap (λ y. take i xs ++ y ∷ []) (sym e)) ∙ map-append f (take i xs) (x ∷ [])

-- one more is good
pub good_more : {X : Type 0} (P : X → Type 0) (xs : List X) (i : ℕ) (x : X) → i < length xs → x ≡ get_or xs i x → AllByRecursion P (take i xs) → P x → AllByRecursion P (take (i + 1) xs)
good_more P xs i x h e done here = all_take_more P xs i x done (slice_get_read xs (length xs) i x refl h e) here

-- ---- refusals

pub refusal_none : {E : Type 0} (b : Bool) (e : E) → refusal_if b e ≡ None → b ≡ false
refusal_none false e h = refl
refusal_none true e h = cc

pub option_none : {A B : Type 0} (f : A → B) (o : Option A) → option_map f o ≡ None → o ≡ None
option_none f None h = refl
option_none f (Some x) h = cc

pub first_none : {E : Type 0} (o : Option E) (rest : List (Option E)) → first_refusal (o ∷ rest) ≡ None → (o ≡ None) × (first_refusal rest ≡ None)
first_none None rest h = (refl, h)
first_none (Some e) rest h = cc

-- where there is no refusal, no line applies
pub none_of : {E : Type 0} (os : List (Option E)) → first_refusal os ≡ None → AllByRecursion (λ o. o ≡ None) os
none_of [] h = tt
none_of (None ∷ os) h = (refl, none_of os h)
none_of (Some e ∷ os) h = cc

-- the lines behind others
pub behind_none : {E : Type 0} (os ps : List (Option E)) → first_refusal (os ++ ps) ≡ None → first_refusal ps ≡ None
behind_none [] ps h = h
behind_none (None ∷ os) ps h = behind_none os ps h
behind_none (Some e ∷ os) ps h = cc

pub each_none : {E : Type 0} (os : List (Option E)) (o : Option E) → first_refusal os ≡ None → Contains os o → o ≡ None
each_none [] o h c = absurd (Contains-none o c)
each_none (None ∷ os) o h c = ⊎_elim (λ e. sym e) (λ rest. each_none os o h rest) (Contains-cases None o os c)
each_none (Some e ∷ os) o h c = cc

-- one line alone
pub alone : {E : Type 0} (o : Option E) → o ≡ first_refusal (o ∷ [])
alone None = refl
alone (Some e) = refl

-- ---- what a look finds

pub find_none : {X : Type 0} (p : X → Bool) (xs : List X) (x : X) → find p xs ≡ None → Contains xs x → p x ≡ false
find_none p [] x h c = absurd (Contains-none x c)
find_none p (y ∷ ys) x h c =
    elim (p y) as (λ b. p y ≡ b → cond b (Some y) (find p ys) ≡ None → p x ≡ false) [
      | true ↦ λ e k. cc
      | false ↦ λ e k. ⊎_elim (λ same. ap p (sym same) ∙ e) (λ rest. find_none p ys x k rest) (Contains-cases y x ys c)
    ] refl h

-- ---- the first item that fails

module _ {X : Type 0} (good : ℕ → X → Bool) where
  from_test : (n : ℕ) (x : X) (xs : List X) (b : Bool) → good n x ≡ b → first_bad good n (x ∷ xs) ≡ cond b (first_bad good (suc n) xs) (Some n)
  from_test n x xs b e = ap (λ c. cond c (first_bad good (suc n) xs) (Some n)) e

  -- an item that passes is passed over
  pub bad_later : (xs : List X) (i : ℕ) (x d : X) → i < length xs → x ≡ get_or xs i d → good i x ≡ true → first_bad good i (drop i xs) ≡ first_bad good (i + 1) (drop (i + 1) xs)
  bad_later xs i x d h at e =
      let one : suc i ≡ i + 1 = omega arith in
      ap (first_bad good i) (drop-cons xs i d h ∙ ap (λ y. y ∷ drop (suc i) xs) (sym at))
      ∙ from_test i x (drop (suc i) xs) true e
      ∙ ap (λ k. first_bad good k (drop k xs)) one

  -- one that fails is the first
  pub bad_here : (xs : List X) (i : ℕ) (x d : X) → i < length xs → x ≡ get_or xs i d → good i x ≡ false → first_bad good i (drop i xs) ≡ Some i
  bad_here xs i x d h at e =
      ap (first_bad good i) (drop-cons xs i d h ∙ ap (λ y. y ∷ drop (suc i) xs) (sym at))
      ∙ from_test i x (drop (suc i) xs) false e

  pub bad_nowhere : (xs : List X) (i : ℕ) → length xs ≤ i → first_bad good i (drop i xs) ≡ None
  bad_nowhere xs i h = none i xs h
    where
      none : (i : ℕ) (xs : List X) → length xs ≤ i → first_bad good i (drop i xs) ≡ None
      none i xs h = ap (first_bad good i) (drop_all i xs h)

  -- where none fails, each passes
  pub each_good : (n : ℕ) (xs : List X) → first_bad good n xs ≡ None → (i : ℕ) (x : X) → slice_get xs i ≡ Some x → good (n + i) x ≡ true
  each_good n [] h i x at = cc
  each_good n (y ∷ ys) h i x at =
      elim (good n y) as (λ b. good n y ≡ b → cond b (first_bad good (suc n) ys) (Some n) ≡ None → (j : ℕ) → slice_get (y ∷ ys) j ≡ Some x → good (n + j) x ≡ true) [
        | true ↦ λ e k. λ j. elim j as (λ m. slice_get (y ∷ ys) m ≡ Some x → good (n + m) x ≡ true) [
          | zero ↦ λ s. let same : y ≡ x = cc in let z : n + 0 ≡ n = omega arith in ap (λ m. good m x) z ∙ ap (good n) (sym same) ∙ e
          | suc m ↦ λ s. let z : n + suc m ≡ suc n + m = omega arith in ap (λ q. good q x) z ∙ each_good (suc n) ys k m x s
        ]
        | false ↦ λ e k. λ j s. cc
      ] refl h i at

-- no two lengths differ
pub like_lengths : (m n : ℕ) → unlike_lengths m n ≡ None → m ≡ n
like_lengths m n h = cases (m == n) h (λ e. equal e)
  where
    equal : (m == n) ≡ true → m ≡ n
    equal e = grind (arith, nat_tests)

    cases : (b : Bool) → cond b None (Some (min m n)) ≡ None → (b ≡ true → m ≡ n) → m ≡ n
    cases true k f = f refl
    cases false k f = cc

-- what a loop reads of the first n
pub taken_is : {X : Type 0} (n : ℕ) (xs : List X) (i : ℕ) (x : X) → i < n → x ≡ get_or xs i x → x ≡ get_or (take n xs) i x
taken_is zero xs i x h e = absurd (omega (arith, h))
taken_is (suc n) [] i x h e = refl
taken_is (suc n) (y ∷ ys) zero x h e = e
taken_is (suc n) (y ∷ ys) (suc i) x h e = taken_is n ys i x (omega (arith, h)) e

pub taken_long : {X : Type 0} (n : ℕ) (xs : List X) (i : ℕ) → i < n → i < length xs → i < length (take n xs)
taken_long zero xs i h l = absurd (omega (arith, h))
taken_long (suc n) [] i h l = absurd (omega (arith, l))
taken_long (suc n) (x ∷ xs) zero h l = omega arith
taken_long (suc n) (x ∷ xs) (suc i) h l = let r = taken_long n xs i (omega (arith, h)) (omega (arith, l)) in omega (arith, r)
