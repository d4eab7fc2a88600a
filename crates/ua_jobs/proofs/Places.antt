-- Lists of which one place changes: totals, and what holds of each.
use Rattle.std.proofs.Common.{◌≡◌, ℕ, zero, suc, ◌+◌, ◌<◌, ◌≤◌, ◌==◌, List, [], ◌∷◌, ◌++◌, set, refl, sym, ap, subst, arith}
use Rattle.std.specs.List.{AllByRecursion}
use Rattle.std.proofs.lemmas.Bool.Decides.{nat_tests}
use mathlib.Core.Option.{some, some-ne-none, some-injective}
use lib.ListN.{get_elem?}
use Rattle.ua_table.specs.Counting.{one_if, total, times}
use Rattle.ua_table.proofs.Counts.{one_has, one_if-same}
use Rattle.ua_table.proofs.Lists.{all_push}
use Rattle.ua_jobs.specs.Rule.{IsAscending}

module _ {X : Type 0} where
  -- a change at one place takes away what stood there, and adds what stands there now
  pub total_moved : (f : X → ℕ) (xs : List X) (i : ℕ) (x y : X) → get_elem? xs i ≡ some x → total f (set xs i y) + f x ≡ total f xs + f y
  total_moved f [] i x y e = absurd (some-ne-none x (sym e))
  total_moved f (z ∷ zs) zero x y e = let same : f z ≡ f x = ap f (some-injective z x e) in omega (arith, same)
  total_moved f (z ∷ zs) (suc i) x y e = omega (arith, total_moved f zs i x y e)

  -- a change that keeps the weight keeps the total
  pub total_kept : (f : X → ℕ) (xs : List X) (i : ℕ) (x y : X) → get_elem? xs i ≡ some x → f y ≡ f x → total f (set xs i y) ≡ total f xs
  total_kept f xs i x y e same = omega (arith, same, total_moved f xs i x y e)

  pub part_of : (f : X → ℕ) (xs : List X) (i : ℕ) (x : X) → get_elem? xs i ≡ some x → f x ≤ total f xs
  part_of f [] i x e = absurd (some-ne-none x (sym e))
  part_of f (z ∷ zs) zero x e = let same : f z ≡ f x = ap f (some-injective z x e) in omega (arith, same)
  part_of f (z ∷ zs) (suc i) x e = omega (arith, part_of f zs i x e)

  pub at_all : (P : X → Type 0) (xs : List X) (i : ℕ) (x : X) → AllByRecursion P xs → get_elem? xs i ≡ some x → P x
  at_all P [] i x a e = absurd (some-ne-none x (sym e))
  at_all P (z ∷ zs) zero x a e = subst P (some-injective z x e) a.0
  at_all P (z ∷ zs) (suc i) x a e = at_all P zs i x a.1 e

  -- where a total is 0, each has no part in it
  pub all_none : (g : X → ℕ) (P Q : X → Type 0) (xs : List X) → total g xs ≡ 0 → AllByRecursion P xs → ((u : X) → P u → g u ≡ 0 → Q u) → AllByRecursion Q xs
  all_none g P Q [] none a q = tt
  all_none g P Q (z ∷ zs) none a q = (q z a.0 (omega (arith, none)), all_none g P Q zs (omega (arith, none)) a.1 q)

  pub total_none : (f g : X → ℕ) (P : X → Type 0) (xs : List X) → total g xs ≡ 0 → AllByRecursion P xs → ((u : X) → P u → g u ≡ 0 → f u ≡ 0) → total f xs ≡ 0
  total_none f g P [] none a q = refl
  total_none f g P (z ∷ zs) none a q = omega (arith, q z a.0 (omega (arith, none)), total_none f g P zs (omega (arith, none)) a.1 q)

  -- where one place has the whole total, the others have no part in it
  pub all_alone : (g : X → ℕ) (P Q : X → Type 0) (xs : List X) (i : ℕ) (x y : X) → total g xs ≡ g x → get_elem? xs i ≡ some x → AllByRecursion P xs → ((u : X) → P u → g u ≡ 0 → Q u) → Q y → AllByRecursion Q (set xs i y)
  all_alone g P Q [] i x y whole e a q p = tt
  all_alone g P Q (z ∷ zs) zero x y whole e a q p =
      let same : g z ≡ g x = ap g (some-injective z x e) in
      (p, all_none g P Q zs (omega (arith, whole, same)) a.1 q)
  all_alone g P Q (z ∷ zs) (suc i) x y whole e a q p =
      let least = part_of g zs i x e in
      (q z a.0 (omega (arith, whole, least)), all_alone g P Q zs i x y (omega (arith, whole, least)) e a.1 q p)

  -- and so it has the whole of another total
  pub total_alone : (f g : X → ℕ) (P : X → Type 0) (xs : List X) (i : ℕ) (x : X) → total g xs ≡ g x → get_elem? xs i ≡ some x → AllByRecursion P xs → ((u : X) → P u → g u ≡ 0 → f u ≡ 0) → total f xs ≡ f x
  total_alone f g P [] i x whole e a q = absurd (some-ne-none x (sym e))
  total_alone f g P (z ∷ zs) zero x whole e a q =
      let same : g z ≡ g x = ap g (some-injective z x e) in
      let here : f z ≡ f x = ap f (some-injective z x e) in
      omega (arith, here, total_none f g P zs (omega (arith, whole, same)) a.1 q)
  total_alone f g P (z ∷ zs) (suc i) x whole e a q =
      let least = part_of g zs i x e in
      omega (arith, q z a.0 (omega (arith, whole, least)), total_alone f g P zs i x (omega (arith, whole, least)) e a.1 q)

-- ---- numbers in lists

same_number : (x y : ℕ) → 0 < one_if (y == x) → y ≡ x
same_number x y w = grind (arith, nat_tests)

-- what holds of each holds of a number that stands there
pub holds_of : (P : ℕ → Type 0) (xs : List ℕ) (x : ℕ) → AllByRecursion P xs → 0 < times x xs → P x
holds_of P xs x a h = let r = one_has P (λ y. one_if (y == x)) xs a h in subst P (same_number x r.0 r.2) r.1

-- what holds of each number that stands there holds of each
pub all_from_times : (P : ℕ → Type 0) (xs : List ℕ) → ((y : ℕ) → 0 < times y xs → P y) → AllByRecursion P xs
all_from_times P [] h = tt
all_from_times P (x ∷ xs) h = (h x (omega (arith, one_if-same x x refl)), all_from_times P xs (λ y p. h y (omega (arith, p))))

-- a greater number may follow
pub ascending_more : (xs : List ℕ) (x : ℕ) → IsAscending xs → AllByRecursion (λ y. y < x) xs → IsAscending (xs ++ x ∷ [])
ascending_more [] x up below = (tt, tt)
ascending_more (y ∷ ys) x up below = (all_push (λ z. y < z) ys x up.0 below.0, ascending_more ys x up.1 below.1)
