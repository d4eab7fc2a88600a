-- Tests that are passed, so that no line applies and no item fails.
use Rattle.std.proofs.Common.{◌≡◌, ℕ, suc, ◌+◌, ◌<◌, Bool, true, false, ◌&&◌, cond, Option, Some, None, List, [], ◌∷◌, refl, sym, ap, ◌∙◌, arith}
use Rattle.std.specs.Prelude.{Contains, slice_get, find, nat_lt, ◌==◌}
use Rattle.std.specs.List.{AllByRecursion, list_all}
use Rattle.std.specs.Option.{option_map}
use Rattle.std.specs.Cmp.Lexicographic.{nat_list_eq_equiv, bytes_decides}
use Rattle.std.proofs.lemmas.Bool.Decides.{nat_tests}
use Rattle.std.proofs.lemmas.Map.Views.{list_any-from_Contains}
use Rattle.ua_table.specs.Algebras.{Vector}
use Rattle.ua_table.specs.Refusals.{first_refusal}
use Rattle.ua_table.proofs.Lists.{Contains-head, Contains-tail}
use Rattle.ua_flaws.specs.Firsts.{first_bad, is_same, is_among}

-- ---- tests

pub is_below : (j k : ℕ) → j < k → nat_lt j k ≡ true
is_below j k l = grind (arith, nat_tests)

pub is_equal : (j k : ℕ) → j ≡ k → (j == k) ≡ true
is_equal j k e = grind (arith, nat_tests)

pub are_below : (n : ℕ) (xs : List ℕ) → AllByRecursion (λ x. x < n) xs → list_all (λ x. nat_lt x n) xs ≡ true
are_below n [] h = refl
are_below n (x ∷ xs) h = ap (λ b. b && list_all (λ y. nat_lt y n) xs) (is_below x n h.0) ∙ are_below n xs h.1

pub is_same_vector : (v w : Vector) → v ≡ w → is_same v w ≡ true
is_same_vector v w e = (bytes_decides v w).1 e

pub is_there : (vs : List Vector) (v : Vector) → Contains vs v → is_among vs v ≡ true
is_there vs v c = list_any-from_Contains nat_list_eq_equiv v vs c

-- ---- lines and items

-- no line applies
pub no_line : {E : Type 0} (os : List (Option E)) → AllByRecursion (λ o. o ≡ None) os → first_refusal os ≡ None
no_line [] h = refl
no_line (None ∷ os) h = no_line os h.1
no_line (Some e ∷ os) h = cc

pub no_option : {A B : Type 0} (f : A → B) (o : Option A) → o ≡ None → option_map f o ≡ None
no_option f None h = refl
no_option f (Some x) h = cc

-- each item passes
pub none_bad : {X : Type 0} (good : ℕ → X → Bool) (n : ℕ) (xs : List X) → ((i : ℕ) (x : X) → slice_get xs i ≡ Some x → good (n + i) x ≡ true) → first_bad good n xs ≡ None
none_bad good n [] h = refl
none_bad good n (x ∷ xs) h =
    let z : n + 0 ≡ n = omega arith in
    let here : good n x ≡ true = ap (λ k. good k x) (sym z) ∙ h 0 x refl in
    ap (λ b. cond b (first_bad good (suc n) xs) (Some n)) here
    ∙ none_bad good (suc n) xs (λ i y at. (let s : suc n + i ≡ n + suc i = omega arith in ap (λ k. good k y) s ∙ h (suc i) y at))

-- no item is found
pub none_found : {X : Type 0} (p : X → Bool) (xs : List X) → ((x : X) → Contains xs x → p x ≡ false) → find p xs ≡ None
none_found p [] h = refl
none_found p (x ∷ xs) h =
    ap (λ b. cond b (Some x) (find p xs)) (h x (Contains-head x xs)) ∙ none_found p xs (λ y c. h y (Contains-tail x y xs c))
