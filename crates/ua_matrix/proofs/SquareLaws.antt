-- The subalgebra of the square on the pairs that a congruence relates is the algebra of these pairs.
use Rattle.std.proofs.Common.{◌≡◌, ℕ, ◌+◌, ◌*◌, ◌/◌, ◌%◌, ◌<◌, List, [], ◌∷◌, length, map, refl, sym, ap, ◌∙◌, subst, arith, ⊎_elim}
use Rattle.std.specs.Prelude.{slice_index, Contains, ◌==◌}
use Rattle.std.specs.List.{AllByRecursion, range_with_len}
use Rattle.std.specs.List.Sorted.{IsStrictlyIncreasing}
use Rattle.std.proofs.Math.Nat.{div-lt_iff_lt-mul, mod-lt}
use Rattle.std.proofs.lemmas.Bool.{cases_lt, eq-eqb, eqb-true}
use Rattle.std.proofs.lemmas.List.{length-map}
use Rattle.std.proofs.lemmas.List.FromFn.{length-range_with_len, get_or-range_with_len, get_or-map-range_with_len}
use Rattle.std.proofs.lemmas.List.Elements.{Contains-get_or}
use Rattle.std.proofs.lemmas.List.Kept.{AllPairs-from_increasing, IsStrictlyIncreasing-filter}
use Rattle.std.proofs.lemmas.Nat.{div-mul-add, mod-mul-add, div-add-mod'}
use Rattle.std.proofs.lemmas.Simd.{map-map}
use Rattle.ua_table.specs.Algebras.{FiniteAlgebra, Operation, IsAlgebra, arities_of, value_at}
use Rattle.ua_table.proofs.ApplyLaws.{value-below}
use Rattle.ua_table.proofs.Choices.{in_range, range_low}
use Rattle.ua_table.proofs.Lists.{all_from_contains}
use Rattle.ua_part.specs.Partitions.{Partition, SameBlock}
use Rattle.ua_part.proofs.RelatedLaws.{passed_in, passed_from}
use Rattle.ua_prod.specs.Congruences.{IsCongruence}
use Rattle.ua_prod.specs.Constructions.{pair_number, first_of, second_of, place_among, side_by_side, product_of}
use Rattle.ua_prod.proofs.EscapeLaws.{place_below, member_at}
use Rattle.ua_prod.proofs.ProductLaws.{pair_below}
use Rattle.ua_prod.proofs.ValueLaws.{same_arities, value_among, value_paired}
use Rattle.ua_cong.specs.Closings.{AreElements}
use Rattle.ua_cong.proofs.ClosingLaws.{all_of_range}
use Rattle.ua_matrix.specs.Deltas.{IsAlgebraOfPairs, diagonal_pairs}
use Rattle.ua_matrix.specs.Squares.{number_of}
use Rattle.ua_matrix.specs.inner.Squares.{pairs_in, left_of, right_of, IsSubsquare}

-- the operations of the square have the arities of the algebra
square_arities : (os : List Operation) → map (λ (o : Operation). o.arity) (side_by_side os os) ≡ map (λ (o : Operation). o.arity) os
square_arities [] = refl
square_arities (o ∷ os) = ap (λ (ks : List ℕ). o.arity ∷ ks) (square_arities os)

-- numbers that increase stand at one place each
one_place : (xs : List ℕ) → IsStrictlyIncreasing xs → (i j : ℕ) → i < length xs → j < length xs → slice_index xs i ≡ slice_index xs j → i ≡ j
one_place xs up i j iw jw same =
    ⊎_elim
    (λ less. let low = AllPairs-from_increasing xs up i j 0 less jw in absurd (omega (arith, low, same)))
    (λ more. ⊎_elim (λ less. let low = AllPairs-from_increasing xs up j i 0 less iw in absurd (omega (arith, low, same))) (λ other. omega (arith, more, other)) (cases_lt j i))
    (cases_lt i j)

-- the numbers of related pairs increase, and are those of pairs
pub pairs_increasing : (p : Partition) → IsStrictlyIncreasing (pairs_in p)
pairs_increasing p = IsStrictlyIncreasing-filter (λ k. slice_index p (first_of (length p) k) == slice_index p (second_of (length p) k)) (range_with_len 0 (length p * length p)) (λ k w.
    let n = length-range_with_len 0 (length p * length p) in
    let one = get_or-range_with_len 0 (length p * length p) k 0 (omega (arith, w, n)) in
    let two = get_or-range_with_len 0 (length p * length p) (k + 1) 0 (omega (arith, w, n)) in
    omega (arith, one, two))

pub pairs_low : (p : Partition) (n : ℕ) → length p ≡ n → AllByRecursion (λ k. k < n * n) (pairs_in p)
pairs_low p n size = subst (λ m. AllByRecursion (λ k. k < m * m) (pairs_in p)) size
    (all_from_contains (λ k. k < length p * length p) (pairs_in p) (λ k c.
    let here = passed_from (λ j. slice_index p (first_of (length p) j) == slice_index p (second_of (length p) j)) k (range_with_len 0 (length p * length p)) c in
    let low = (range_low 0 (length p * length p) k here.0).1 in
    omega (arith, low)))

-- the pairs that generate Delta are pairs of elements
pub diagonal_elements : (a : FiniteAlgebra) (pairs : List ℕ) (b : FiniteAlgebra) (n : ℕ) (alpha : Partition) → IsSubsquare a pairs b → AllByRecursion (AreElements b) (diagonal_pairs (number_of n pairs) alpha)
diagonal_elements a pairs b n alpha h = all_of_range (AreElements b) (λ u. (number_of n pairs u u, number_of n pairs (slice_index alpha u) (slice_index alpha u))) (length alpha) (λ u w.
    let size : b.size ≡ length pairs = ap (λ (c : FiniteAlgebra). c.size) h.is in
    let one = place_below pairs (pair_number n u u) h.some in
    let two = place_below pairs (pair_number n (slice_index alpha u) (slice_index alpha u)) h.some in
    (omega (arith, one, size), omega (arith, two, size)))

module _ (a : FiniteAlgebra) (alg : IsAlgebra a) (beta : Partition) (cb : IsCongruence a beta) (pairs : List ℕ) (are : pairs ≡ pairs_in beta) (up : IsStrictlyIncreasing pairs) (b : FiniteAlgebra) (h : IsSubsquare a pairs b) where
  some_elements : 0 < a.size
  some_elements = alg.inhabited

  -- ---- which pairs these are

  pair_from : (k : ℕ) → Contains pairs k → (k < a.size * a.size) × (slice_index beta (first_of a.size k) ≡ slice_index beta (second_of a.size k))
  pair_from k c =
      let size = cb.size in
      let p = passed_from (λ j. slice_index beta (first_of (length beta) j) == slice_index beta (second_of (length beta) j)) k (range_with_len 0 (length beta * length beta)) (subst (λ (ps : List ℕ). Contains ps k) are c) in
      let low = (range_low 0 (length beta * length beta) k p.0).1 in
      let same = eqb-true (slice_index beta (first_of (length beta) k)) (slice_index beta (second_of (length beta) k)) p.1 in
      let square : length beta * length beta ≡ a.size * a.size = (λ i. size i * size i) in
      (omega (arith, low, square), subst (λ m. slice_index beta (first_of m k) ≡ slice_index beta (second_of m k)) cb.size same)

  pair_in : (x y : ℕ) → SameBlock beta x y → Contains pairs (pair_number a.size x y)
  pair_in x y s =
      let size = cb.size in
      let l = s.left in
      let r = s.right in
      let low = pair_below (length beta) (length beta) x y l r in
      let first : (x * length beta + y) / length beta ≡ x = div-mul-add x (length beta) y r in
      let second : (x * length beta + y) % length beta ≡ y = mod-mul-add x (length beta) y r in
      let same : slice_index beta (first_of (length beta) (pair_number (length beta) x y))
      ≡ slice_index beta (second_of (length beta) (pair_number (length beta) x y)) =
      ap (slice_index beta) first ∙ s.same ∙ ap (slice_index beta) (sym second) in
      let c = passed_in (λ j. slice_index beta (first_of (length beta) j) == slice_index beta (second_of (length beta) j)) (pair_number (length beta) x y) (range_with_len 0 (length beta * length beta))
      (in_range 0 (length beta * length beta) (pair_number (length beta) x y) (omega arith) (omega (arith, low)))
      (eq-eqb (slice_index beta (first_of (length beta) (pair_number (length beta) x y))) (slice_index beta (second_of (length beta) (pair_number (length beta) x y))) same) in
      subst (λ m. Contains pairs (pair_number m x y)) cb.size (subst (λ (ps : List ℕ). Contains ps (pair_number (length beta) x y)) (sym are) c)

  -- ---- the elements of the subalgebra

  pair_at : (e : ℕ) → e < length pairs → Contains pairs (slice_index pairs e)
  pair_at e w = Contains-get_or pairs e 0 w

  second_low : (k : ℕ) → second_of a.size k < a.size
  second_low k = mod-lt k some_elements

  pair_is : (k : ℕ) → pair_number a.size (first_of a.size k) (second_of a.size k) ≡ k
  pair_is k = div-add-mod' k a.size

  related_at : (e : ℕ) → e < length pairs → SameBlock beta (left_of a.size pairs e) (right_of a.size pairs e)
  related_at e w =
      let p = pair_from (slice_index pairs e) (pair_at e w) in
      let low = (div-lt_iff_lt-mul {k = a.size} {x = slice_index pairs e} {y = a.size} some_elements).1 p.0 in
      let high = second_low (slice_index pairs e) in
      let size = cb.size in
      record { left = omega (arith, low, size); right = omega (arith, high, size); same = p.1 }

  stands : (k : ℕ) → Contains pairs k → slice_index pairs (place_among pairs k) ≡ k
  stands k c = (member_at pairs k h.some).1 c

  numbered_at : (x y : ℕ) → SameBlock beta x y → (number_of a.size pairs x y < length pairs) × (left_of a.size pairs (number_of a.size pairs x y) ≡ x) × (right_of a.size pairs (number_of a.size pairs x y) ≡ y)
  numbered_at x y s =
      let r = s.right in
      let size = cb.size in
      let low : y < a.size = omega (arith, r, size) in
      let at = stands (pair_number a.size x y) (pair_in x y s) in
      (place_below pairs (pair_number a.size x y) h.some, ap (first_of a.size) at ∙ div-mul-add x a.size y low, ap (second_of a.size) at ∙ mod-mul-add x a.size y low)

  one_number : (e : ℕ) → e < length pairs → number_of a.size pairs (left_of a.size pairs e) (right_of a.size pairs e) ≡ e
  one_number e w =
      ap (place_among pairs) (pair_is (slice_index pairs e))
      ∙ one_place pairs up (place_among pairs (slice_index pairs e)) e (place_below pairs (slice_index pairs e) h.some) w (stands (slice_index pairs e) (pair_at e w))

  -- ---- its operations

  abbrev square : FiniteAlgebra
  square = product_of a.name a a

  arities_are : arities_of (product_of a.name a a) ≡ arities_of a
  arities_are = square_arities a.operations

  members_in : (es : List ℕ) → AllByRecursion (λ e. e < length pairs) es → AllByRecursion (Contains pairs) (map (slice_index pairs) es)
  members_in [] w = tt
  members_in (e ∷ es) w = (pair_at e w.0, members_in es w.1)

  members_low : (es : List ℕ) → AllByRecursion (λ e. e < length pairs) es → AllByRecursion (λ k. k < a.size * a.size) (map (slice_index pairs) es)
  members_low [] w = tt
  members_low (e ∷ es) w = ((pair_from (slice_index pairs e) (pair_at e w.0)).0, members_low es w.1)

  value_stands : (f : ℕ) (es : List ℕ) → f < length (arities_of a) → length es ≡ slice_index (arities_of a) f → AllByRecursion (λ e. e < length pairs) es
      → slice_index pairs (value_at b f es) ≡ pair_number a.size (value_at a f (map (left_of a.size pairs) es)) (value_at a f (map (right_of a.size pairs) es))
  value_stands f es w count low =
      let ks = map (slice_index pairs) es in
      let wq : f < length (arities_of (product_of a.name a a)) = subst (λ (qs : List ℕ). f < length qs) (sym arities_are) w in
      let cq : length es ≡ slice_index (arities_of (product_of a.name a a)) f = count ∙ ap (λ (qs : List ℕ). slice_index qs f) (sym arities_are) in
      let long : length (map (slice_index pairs) es) ≡ slice_index (arities_of (product_of a.name a a)) f = length-map es (slice_index pairs) ∙ cq in
      let inside = h.closed f (map (slice_index pairs) es) wq long (members_in es low) in
      let v = value_at (product_of a.name a a) f (map (slice_index pairs) es) in
      let vw = (pair_from (value_at (product_of a.name a a) f (map (slice_index pairs) es)) inside).0 in
      let numbers = map (place_among pairs) (range_with_len 0 (a.size * a.size)) in
      let among = value_among a.name (product_of a.name a a) pairs numbers h.square f es wq cq low in
      let read : slice_index (map (place_among pairs) (range_with_len 0 (a.size * a.size)))
      (value_at (product_of a.name a a) f (map (slice_index pairs) es))
      ≡ place_among pairs (value_at (product_of a.name a a) f (map (slice_index pairs) es)) =
      get_or-map-range_with_len (place_among pairs) 0 (a.size * a.size) (value_at (product_of a.name a a) f (map (slice_index pairs) es))
      (value_at (product_of a.name a a) f (map (slice_index pairs) es)) 0 vw (omega arith) in
      ap (λ (c : FiniteAlgebra). slice_index pairs (value_at c f es)) h.is
      ∙ ap (slice_index pairs) (among ∙ read)
      ∙ stands (value_at (product_of a.name a a) f (map (slice_index pairs) es)) inside
      ∙ value_paired a.name a a alg alg refl f (map (slice_index pairs) es) w (length-map es (slice_index pairs) ∙ count) (members_low es low)
      ∙ (λ i. pair_number a.size (value_at a f (map-map (first_of a.size) (slice_index pairs) es i)) (value_at a f (map-map (second_of a.size) (slice_index pairs) es i)))

  size_is : b.size ≡ length pairs
  size_is = ap (λ (c : FiniteAlgebra). c.size) h.is

  value_low : (f : ℕ) (es : List ℕ) → f < length (arities_of a) → length es ≡ slice_index (arities_of a) f → AllByRecursion (λ e. e < length pairs) es → value_at a f (map (right_of a.size pairs) es) < a.size
  value_low f es w count low = value-below a f (map (right_of a.size pairs) es) alg w (length-map es (right_of a.size pairs) ∙ count) (rights es)
    where
      rights : (us : List ℕ) → AllByRecursion (λ e. e < a.size) (map (right_of a.size pairs) us)
      rights [] = tt
      rights (u ∷ us) = (second_low (slice_index pairs u), rights us)

  pub subsquare_is : IsAlgebraOfPairs a beta (left_of a.size pairs) (right_of a.size pairs) (number_of a.size pairs) b
  subsquare_is = record {
    algebra = h.algebra;
    arities = ap arities_of h.is ∙ same_arities pairs (map (place_among pairs) (range_with_len 0 (a.size * a.size))) (product_of a.name a a).operations ∙ arities_are;
    related = λ e w. related_at e (omega (arith, w, size_is));
    numbered = λ x y s. let r = numbered_at x y s in let r0 = r.0 in (omega (arith, r0, size_is), r.1, r.2);
    one = λ e w. one_number e (omega (arith, w, size_is));
    lefts = λ f es w count low.
        let inner = subst (λ m. AllByRecursion (λ e. e < m) es) size_is low in
        ap (first_of a.size) (value_stands f es w count inner) ∙ div-mul-add (value_at a f (map (left_of a.size pairs) es)) a.size (value_at a f (map (right_of a.size pairs) es)) (value_low f es w count inner);
    rights = λ f es w count low.
        let inner = subst (λ m. AllByRecursion (λ e. e < m) es) size_is low in
        ap (second_of a.size) (value_stands f es w count inner) ∙ mod-mul-add (value_at a f (map (left_of a.size pairs) es)) a.size (value_at a f (map (right_of a.size pairs) es)) (value_low f es w count inner);
  }
