-- The values of operations of renumbered algebras and of products.
use Rattle.std.proofs.Common.{◌≡◌, ℕ, zero, suc, ◌+◌, ◌-◌, ◌*◌, ◌^◌, ◌<◌, List, [], ◌∷◌, length, map, get_or, replicate, refl, sym, ap, ◌∙◌, subst, arith, Some}
use Rattle.std.specs.Prelude.{slice_index, slice_get, zip}
use Rattle.std.specs.List.{AllByRecursion, range_with_len}
use Rattle.std.proofs.lemmas.List.{length-map, get_or-map, ext_get_or}
use Rattle.std.proofs.lemmas.List.FromFn.{length-range_with_len, length-map-range_with_len, get_or-map-range_with_len}
use Rattle.std.proofs.lemmas.Simd.{map-map}
use Rattle.std.proofs.Math.Nat.{pow-suc, pow-zero}
use Rattle.ua_table.specs.declared.spans.Span.{Span}
use Rattle.ua_table.specs.Algebras.{Operation, FiniteAlgebra, IsAlgebra, arities_of, value_at, numeral, signature}
use Rattle.ua_table.specs.Numbering.{choices}
use Rattle.ua_table.specs.Spans.{ranges, tuples}
use Rattle.ua_table.proofs.ApplyLaws.{numeral-below}
use Rattle.ua_table.proofs.Codes.{numeral-cons}
use Rattle.ua_table.proofs.Lists.{found, mapped_at}
use Rattle.ua_table.proofs.SpanLaws.{IsInSpans, many, rank, rank_at}
use Rattle.ua_prod.specs.Constructions.{value_of, tuples_among, first_of, second_of, pair_number, paired, renumbered, algebra_among, product_of}
use Rattle.ua_prod.proofs.ClashLaws.{arity_is, size_is, value_is}
use Rattle.ua_prod.proofs.ProductLaws.{same_count, same_arity, zipped_at, paired_value}
use Rattle.ua_prod.proofs.TupleLaws.{count_tuples, tuples_mapped}

-- ---- which tuple stands at a number

-- the elements, at each of so many places
abbrev places : ℕ → ℕ → List Span
places n k = replicate k (record { low = 0; count = n })

places_tuples : (n k : ℕ) → tuples (places n k) ≡ tuples_among (range_with_len 0 n) k
places_tuples n k = ap choices (ranges_are k)
  where
    ranges_are : (k : ℕ) → ranges (places n k) ≡ replicate k (range_with_len 0 n)
    ranges_are zero = refl
    ranges_are (suc k) = ap (λ (rest : List (List ℕ)). range_with_len 0 n ∷ rest) (ranges_are k)

places_many : (n k : ℕ) → many (places n k) ≡ n ^ k
places_many n zero = sym (pow-zero n)
places_many n (suc k) = ap (λ m. n * m) (places_many n k) ∙ (let p = pow-suc n k in let e : n * n ^ k ≡ n ^ suc k = omega (arith, p) in e)

places_rank : (n : ℕ) (xs : List ℕ) → rank (places n (length xs)) xs ≡ numeral n xs
places_rank n [] = refl
places_rank n (x ∷ xs) =
    let whole : x - 0 ≡ x = omega arith in
    (λ i. whole i * places_many n (length xs) i + places_rank n xs i) ∙ sym (numeral-cons n x xs)

places_within : (n : ℕ) (xs : List ℕ) → AllByRecursion (λ x. x < n) xs → IsInSpans (places n (length xs)) xs
places_within n [] h = tt
places_within n (x ∷ xs) h = (omega arith, omega (arith, h.0), places_within n xs h.1)

-- the tuple of the numbers below n that has this number
pub tuple_below : (n : ℕ) (xs : List ℕ) → AllByRecursion (λ x. x < n) xs → get_or (tuples_among (range_with_len 0 n) (length xs)) (numeral n xs) [] ≡ xs
tuple_below n xs h =
    (λ i. get_or (sym (places_tuples n (length xs)) i) (sym (places_rank n xs) i) [])
    ∙ rank_at (places n (length xs)) xs (places_within n xs h)

-- the tuple of members that has the number of these places
pub tuple_at : (members : List ℕ) (xs : List ℕ) → AllByRecursion (λ k. k < length members) xs → get_or (tuples_among members (length xs)) (numeral (length members) xs) [] ≡ map (slice_index members) xs
tuple_at members xs h =
    let n = length members in
    let count = length-map-range_with_len (slice_index members) 0 n in
    let listed : map (slice_index members) (range_with_len 0 n) ≡ members =
    ext_get_or 0 (map (slice_index members) (range_with_len 0 n)) members count
    (λ i l. get_or-map-range_with_len (slice_index members) 0 n i i 0 (omega (arith, l, count)) (omega arith)) in
    let low = numeral-below n xs h in
    let long = count_tuples (range_with_len 0 n) (length xs) ∙ ap (λ m. m ^ length xs) (length-range_with_len 0 n) in
    ap (λ (ms : List ℕ). get_or (tuples_among ms (length xs)) (numeral n xs) []) (sym listed)
    ∙ ap (λ (ts : List (List ℕ)). get_or ts (numeral n xs) []) (tuples_mapped (slice_index members) (range_with_len 0 n) (length xs))
    ∙ get_or-map (map (slice_index members)) (tuples_among (range_with_len 0 n) (length xs)) (numeral n xs) [] [] (omega (arith, low, long))
    ∙ ap (map (slice_index members)) (tuple_below n xs h)

-- ---- what stands for members

pub same_arities : (members numbers : List ℕ) (os : List Operation) → map (λ (o : Operation). o.arity) (map (renumbered members numbers) os) ≡ map (λ (o : Operation). o.arity) os
same_arities members numbers os = map-map (λ (o : Operation). o.arity) (renumbered members numbers) os

-- an operation that stands at a number
operation_of : (a : FiniteAlgebra) (f : ℕ) → f < length (arities_of a) → (o : Operation) × (slice_get a.operations f ≡ Some o)
operation_of a f w = found a.operations f (let n = length-map a.operations (λ (o : Operation). o.arity) in omega (arith, w, n))

value_here : (a : FiniteAlgebra) (alg : IsAlgebra a) (f : ℕ) (o : Operation) → slice_get a.operations f ≡ Some o → (xs : List ℕ) → value_of o xs ≡ value_at a f xs
value_here a alg f o stands xs = ap (λ m. slice_index o.values (numeral m xs)) (size_is a f o alg stands) ∙ sym (value_is a f o stands xs)

-- the value at what stands for members is the number of the value at the members
pub value_among : (name : List ℕ) (a : FiniteAlgebra) (members numbers : List ℕ) → IsAlgebra a → (f : ℕ) (xs : List ℕ) → f < length (arities_of a) → length xs ≡ slice_index (arities_of a) f → AllByRecursion (λ k. k < length members) xs
    → value_at (algebra_among name a members numbers) f xs ≡ slice_index numbers (value_at a f (map (slice_index members) xs))
value_among name a members numbers alg f xs w count h =
    let at = operation_of a f w in
    let o = at.0 in
    let long : length xs ≡ o.arity = count ∙ arity_is a f o at.1 in
    let read : List ℕ → ℕ = (λ args. slice_index numbers (value_of o args)) in
    let low : numeral (length members) xs < length (tuples_among members o.arity) =
    (let l = numeral-below (length members) xs h in
    let c = count_tuples members o.arity in
    let e : length members ^ length xs ≡ length members ^ o.arity = ap (λ k. length members ^ k) long in omega (arith, l, c, e)) in
    value_is (algebra_among name a members numbers) f (renumbered members numbers o) (mapped_at (renumbered members numbers) a.operations f o at.1) xs
    ∙ get_or-map read (tuples_among members o.arity) (numeral (length members) xs) [] 0 low
    ∙ ap read (ap (λ k. get_or (tuples_among members k) (numeral (length members) xs) []) (sym long) ∙ tuple_at members xs h)
    ∙ ap (slice_index numbers) (value_here a alg f o at.1 (map (slice_index members) xs))

-- ---- products

-- the value at pairs is the pair of the values
pub value_paired : (name : List ℕ) (a b : FiniteAlgebra) → IsAlgebra a → IsAlgebra b → signature a ≡ signature b → (f : ℕ) (ks : List ℕ)
    → f < length (arities_of a) → length ks ≡ slice_index (arities_of a) f → AllByRecursion (λ k. k < a.size * b.size) ks
    → value_at (product_of name a b) f ks ≡ pair_number b.size (value_at a f (map (first_of b.size) ks)) (value_at b f (map (second_of b.size) ks))
value_paired name a b alg blg e f ks w count h =
    let at = operation_of a f w in
    let o = at.0 in
    let bw : f < length (arities_of b) = (let n = length-map a.operations (λ (o : Operation). o.arity) in let m = length-map b.operations (λ (o : Operation). o.arity) in let s = same_count a b e in omega (arith, w, n, m, s)) in
    let there = operation_of b f bw in
    let p = there.0 in
    let n : o.size * p.size ≡ a.size * b.size = (λ i. size_is a f o alg at.1 i * size_is b f p blg there.1 i) in
    let long : length ks ≡ o.arity = count ∙ arity_is a f o at.1 in
    let side : Operation × Operation → Operation = (λ (both : Operation × Operation). paired both.0 both.1) in
    let tuples : List (List ℕ) = tuples_among (range_with_len 0 (o.size * p.size)) o.arity in
    let low : numeral (a.size * b.size) ks < length (tuples_among (range_with_len 0 (o.size * p.size)) o.arity) = (
    let l = numeral-below (a.size * b.size) ks h in
    let c = count_tuples (range_with_len 0 (o.size * p.size)) o.arity ∙ ap (λ m. m ^ o.arity) (length-range_with_len 0 (o.size * p.size)) in
    let g : (a.size * b.size) ^ length ks ≡ (o.size * p.size) ^ o.arity = (λ i. sym n i ^ long i) in
    omega (arith, l, c, g)) in
    let here : get_or (tuples_among (range_with_len 0 (o.size * p.size)) o.arity) (numeral (a.size * b.size) ks) [] ≡ ks =
    (λ i. get_or (tuples_among (range_with_len 0 (n i)) (sym long i)) (numeral (a.size * b.size) ks) []) ∙ tuple_below (a.size * b.size) ks h in
    value_is (product_of name a b) f (paired o p) (mapped_at side (zip a.operations b.operations) f (o, p) (zipped_at a.operations b.operations f o p at.1 there.1)) ks
    ∙ get_or-map (paired_value o p) (tuples_among (range_with_len 0 (o.size * p.size)) o.arity) (numeral (a.size * b.size) ks) [] 0 low
    ∙ ap (paired_value o p) here
    ∙ (λ i. pair_number (size_is b f p blg there.1 i) (value_here a alg f o at.1 (map (first_of (size_is b f p blg there.1 i)) ks) i) (value_here b blg f p there.1 (map (second_of (size_is b f p blg there.1 i)) ks) i))
