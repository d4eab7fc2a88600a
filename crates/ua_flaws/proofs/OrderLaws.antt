-- Rows each of which is above the one before it increase.
use Rattle.std.proofs.Common.{◌≡◌, ℕ, zero, suc, ◌+◌, ◌<◌, true, Some, None, List, [], ◌∷◌, length, take, get_or, ⊎_elim, refl, sym, ap, ◌∙◌, subst, arith}
use Rattle.std.specs.Prelude.{slice_get, Contains}
use Rattle.std.specs.List.{AllByRecursion}
use Rattle.std.specs.Ordering.{nat_cmp, is_lt, ordering_reverse}
use Rattle.std.specs.declared.cmp.Ordering.{Ordering}
use Rattle.std.specs.declared.cmp.Ordering.TheVariants.{Less, Equal, Greater}
use Rattle.std.specs.Cmp.Lexicographic.{slice_cmp, nat_list_cmp_total}
use Rattle.std.specs.List.Sorted.{IsStrictlySortedBy}
use Rattle.std.proofs.lemmas.Option.{get_or_from_slice_get}
use Rattle.ua_table.specs.Algebras.{Vector, IsIncreasing}
use Rattle.ua_table.proofs.Lists.{found, Contains-none, Contains-cases, All-slice_get}
use Rattle.ua_flaws.specs.Flaws.{follows, order_flaw}
use Rattle.ua_flaws.proofs.FirstLaws.{each_good, option_none}

less_is : (o : Ordering) → is_lt o ≡ true → o ≡ Less
less_is Less e = refl
less_is Equal e = cc
less_is Greater e = cc

-- each vector is below the next
abbrev Climbs : List Vector → Type 0
Climbs rows = (i : ℕ) → suc i < length rows → slice_cmp nat_cmp (get_or rows i []) (get_or rows (suc i) []) ≡ Less

climbs : (rows : List Vector) → order_flaw rows ≡ None → Climbs rows
climbs rows none i h =
    let v = found rows (suc i) h in
    let good = each_good (follows rows) 0 rows (option_none _ _ none) (suc i) v.0 v.1 in
    let z : 0 + suc i ≡ suc i = omega arith in
    let at : follows rows (suc i) v.0 ≡ true = ap (λ k. follows rows k v.0) (sym z) ∙ good in
    let same : get_or rows (suc i) [] ≡ v.0 = get_or_from_slice_get rows (suc i) v.0 [] v.1 in
    less_is _ (ap (λ w. is_lt (slice_cmp nat_cmp (get_or rows i []) w)) same ∙ at)

above_all : (x y : Vector) (ys : List Vector) → slice_cmp nat_cmp x y ≡ Less → AllByRecursion (λ z. slice_cmp nat_cmp y z ≡ Less) ys → AllByRecursion (λ z. slice_cmp nat_cmp x z ≡ Less) ys
above_all x y [] h all = tt
above_all x y (z ∷ zs) h all = (nat_list_cmp_total.trans x y z h all.0, above_all x y zs h all.1)

increasing_from : (rows : List Vector) → Climbs rows → IsIncreasing rows
unfolding IsStrictlySortedBy
increasing_from [] h = tt
increasing_from (x ∷ []) h = (tt, tt)
increasing_from (x ∷ y ∷ ys) h =
    let rest : IsIncreasing (y ∷ ys) = increasing_from (y ∷ ys) (λ i l. h (suc i) (omega (arith, l))) in
    let first = h 0 (omega arith) in
    ((first, above_all x y ys first rest.0), rest)

pub rows_increase : (rows : List Vector) → order_flaw rows ≡ None → IsIncreasing rows
rows_increase rows none = increasing_from rows (climbs rows none)

-- ---- a row is none of those before it

same_not_less : (v : Vector) → slice_cmp nat_cmp v v ≡ Less → ⊥
same_not_less v e = let bad : Less ≡ Greater = sym e ∙ nat_list_cmp_total.antisymm v v ∙ ap ordering_reverse e in cc

pub row_new : (rows : List Vector) (i : ℕ) (v : Vector) → IsIncreasing rows → slice_get rows i ≡ Some v → Contains (take i rows) v → ⊥
unfolding IsStrictlySortedBy
row_new [] i v inc at c = cc
row_new (x ∷ xs) zero v inc at c = Contains-none v c
row_new (x ∷ xs) (suc i) v inc at c = ⊎_elim
    (λ same. same_not_less v (subst (λ w. slice_cmp nat_cmp w v ≡ Less) same (All-slice_get (λ y. slice_cmp nat_cmp x y ≡ Less) xs i v inc.0 at)))
    (λ rest. row_new xs i v inc.1 at rest)
    (Contains-cases x v (take i xs) c)
