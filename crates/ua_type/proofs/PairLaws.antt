-- Pairs are vectors of the square, and the order of pairs.
use Rattle.std.proofs.Common.{◌≡◌, ◌⊎◌, inl, inr, ⊎_elim, ℕ, ◌<◌, ◌≤◌, List, [], ◌∷◌, length, replicate, refl, sym, ap, subst, arith}
use Rattle.std.specs.Prelude.{Contains, slice_index}
use Rattle.std.specs.List.{AllByRecursion, range_with_len}
use Rattle.std.proofs.lemmas.Bool.{cases_lt, cases_eq}
use Rattle.ua_table.specs.Algebras.{Vector, FiniteAlgebra, Product, IsAlgebra, IsProduct, IsVector}
use Rattle.ua_table.specs.Generated.{Sg}
use Rattle.ua_table.specs.Listings.{vectors_of}
use Rattle.ua_table.proofs.Lists.{all_append, all_map, all_from_contains, Contains-head, Contains-tail, Contains-cases, Contains-none}
use Rattle.ua_table.proofs.Choices.{range_low}
use Rattle.ua_close.specs.Kinds.{cardinality}
use Rattle.ua_close.proofs.KindLaws.{closed_exists}
use Rattle.ua_part.specs.Partitions.{Partition}
use Rattle.ua_prod.specs.Congruences.{IsCongruence}
use Rattle.ua_type.specs.Subtraces.{constants, pair_generators, Generates, IsBefore, HasSubtrace}
use Rattle.ua_lattice.specs.Lattices.{IsCover}
use Rattle.ua_type.specs.Quotients.{quotient_by, image_of}
use Rattle.ua_type.proofs.Descent.{subtrace_exists}
use Rattle.ua_type.proofs.QuotientLaws.{quotient-IsAlgebra}
use Rattle.ua_type.proofs.ImageLaws.{image-IsCongruence, image_differs}

-- ---- vectors

pub square-IsProduct : (b : FiniteAlgebra) → IsAlgebra b → IsProduct (replicate 2 b)
square-IsProduct b alg = record { wide = omega arith; algebras = (alg, (alg, tt)); similar = (refl, (refl, tt)) }

pub pair_vectors : (b : FiniteAlgebra) (x y : ℕ) → x < b.size → y < b.size → AllByRecursion (IsVector (replicate 2 b)) (pair_generators b x y)
pair_vectors b x y xw yw =
    all_append (IsVector (replicate 2 b)) (constants 2 b) ((x ∷ y ∷ []) ∷ [])
    (all_map (IsVector (replicate 2 b)) (λ (c : ℕ). replicate 2 c) (range_with_len 0 b.size)
    (all_from_contains (λ (c : ℕ). IsVector (replicate 2 b) (replicate 2 c)) (range_with_len 0 b.size) (λ c h. let r = range_low 0 b.size c h in let w : c < b.size = omega (arith, r.1) in (w, (w, tt)))))
    ((xw, (yw, tt)), tt)

-- a vector of the square: two elements
pub record ArePair (b : FiniteAlgebra) (v : Vector) : Type 0 where
  pub width : length v ≡ 2
  pub below : AllByRecursion (λ e. e < b.size) v
  pub first : slice_index v 0 < b.size
  pub second : slice_index v 1 < b.size
  pub is : v ≡ slice_index v 0 ∷ slice_index v 1 ∷ []

pub pair_from : (b : FiniteAlgebra) (v : Vector) → IsVector (replicate 2 b) v → ArePair b v
pair_from b [] h = absurd h
pair_from b (x ∷ []) h = absurd h.1
pair_from b (x ∷ y ∷ []) h = record { width = refl; below = (h.0, (h.1.0, tt)); first = h.0; second = h.1.0; is = refl }
pair_from b (x ∷ y ∷ z ∷ rest) h = absurd h.1.1

-- ---- the order of pairs

pub pair_cases : (c d x y : ℕ) → IsBefore c d x y ⊎ ((c ≡ x) × (d ≡ y)) ⊎ IsBefore x y c d
pair_cases c d x y =
    ⊎_elim (λ less. inl (inl less))
    (λ more. ⊎_elim (λ same. second same (cases_lt d y) (cases_eq d y)) (λ apart. inr (inr (inl (strict c x more apart)))) (cases_eq c x))
    (cases_lt c x)
  where
    strict : (m n : ℕ) → n ≤ m → (m ≡ n → ⊥) → n < m
    strict m n le apart = ⊎_elim (λ w. w) (λ high. absurd (apart (omega (arith, le, high)))) (cases_lt n m)

    second : c ≡ x → (d < y) ⊎ (y ≤ d) → (d ≡ y) ⊎ (d ≡ y → ⊥) → IsBefore c d x y ⊎ ((c ≡ x) × (d ≡ y)) ⊎ IsBefore x y c d
    second same order equal =
        ⊎_elim (λ low. inl (inr (same, low)))
        (λ high. ⊎_elim (λ e. inr (inl (same, e))) (λ apart. inr (inr (inr (sym same, strict d y high apart)))) equal)
        order

-- ---- what is generated is decided, and so a cover has a subtrace

same_or : (v w : Vector) → (v ≡ w) ⊎ (v ≡ w → ⊥)
same_or [] [] = inl refl
same_or [] (y ∷ ys) = inr (λ e. let n = ap length e in absurd (omega (arith, n)))
same_or (x ∷ xs) [] = inr (λ e. let n = ap length e in absurd (omega (arith, n)))
same_or (x ∷ xs) (y ∷ ys) =
    ⊎_elim
    (λ e. ⊎_elim (λ es. inl (λ i. e i ∷ es i)) (λ apart. inr (λ same. apart (ap tail same))) (same_or xs ys))
    (λ apart. inr (λ same. apart (ap (λ (v : Vector). slice_index v 0) same)))
    (cases_eq x y)
  where
    tail : Vector → Vector
    tail [] = []
    tail (z ∷ zs) = zs

contains_or : (vs : List Vector) (v : Vector) → Contains vs v ⊎ (Contains vs v → ⊥)
contains_or [] v = inr (λ c. Contains-none v c)
contains_or (w ∷ vs) v =
    ⊎_elim
    (λ e. inl (subst (Contains (w ∷ vs)) e (Contains-head w vs)))
    (λ apart. ⊎_elim (λ c. inl (Contains-tail w v vs c)) (λ n. inr (λ c. ⊎_elim (λ e. apart e) (λ r. n r) (Contains-cases w v vs c))) (contains_or vs v))
    (same_or w v)

pub member_or : (p : Product) (gens : List Vector) → IsProduct p → AllByRecursion (IsVector p) gens → (v : Vector) → Sg p gens v ⊎ ¬ Sg p gens v
member_or p gens product admitted v =
    let listed = closed_exists p gens product admitted (cardinality p) (omega arith) in
    ⊎_elim
    (λ there. inl ((listed.closed.exact v).0 there))
    (λ absent. inr (λ g. absent ((listed.closed.exact v).1 g)))
    (contains_or (vectors_of listed.rows) v)

pub generates_or : (b : FiniteAlgebra) → IsAlgebra b → (c d e f : ℕ) → c < b.size → d < b.size → Generates b c d e f ⊎ ¬ Generates b c d e f
generates_or b alg c d e f cw dw = member_or (replicate 2 b) (pair_generators b c d) (square-IsProduct b alg) (pair_vectors b c d cw dw) (e ∷ f ∷ [])

pub cover_congruence : (a : FiniteAlgebra) (alpha beta : Partition) → IsAlgebra a → IsCover a alpha beta → IsCongruence (quotient_by a alpha) (image_of alpha beta)
cover_congruence a alpha beta alg h = image-IsCongruence a alpha beta alg h.lower h.upper h.below

pub cover_subtrace : (a : FiniteAlgebra) (alpha beta : Partition) → IsAlgebra a → IsCover a alpha beta → HasSubtrace (quotient_by a alpha) (image_of alpha beta)
cover_subtrace a alpha beta alg h =
    let b = quotient_by a alpha in
    let theta = image_of alpha beta in
    let cb = cover_congruence a alpha beta alg h in
    subtrace_exists b theta cb
    (λ c d e f s. let n = cb.size in let l = s.left in let r = s.right in generates_or b (quotient-IsAlgebra a alpha alg h.lower) c d e f (omega (arith, l, n)) (omega (arith, r, n)))
    (image_differs a alpha beta h.lower h.upper h.below h.differ)
