-- The congruence Delta is the least partition that relates the two rows of each matrix.
use Rattle.std.proofs.Common.{◌≡◌, ℕ, suc, ◌<◌, Bool, true, false, List, [], ◌∷◌, ◌++◌, length, map, replicate, refl, sym, ap, ◌∙◌, subst, arith, length-append}
use Rattle.std.specs.Prelude.{Contains, MatchBool, slice_index}
use Rattle.std.specs.List.{AllByRecursion, AllZip}
use Rattle.std.proofs.lemmas.List.{get_or_default}
use Rattle.std.proofs.lemmas.List.FromFn.{length-range_with_len}
use Rattle.std.proofs.lemmas.List.Elements.{All-from_recursion}
use Rattle.ua_table.specs.Algebras.{Vector, FiniteAlgebra, arities_of, value_at, apply, column}
use Rattle.ua_table.specs.Terms.{Tree, Generator, Application, Trees, none, more, count_of, IsTerm, AreTerms, term_value, term_values}
use Rattle.ua_table.proofs.ApplyLaws.{value-below}
use Rattle.ua_table.proofs.GeneratedLaws.{generator_in, result_in}
use Rattle.ua_table.proofs.Lists.{Contains-map, Contains-map_from, AllZip-length, all_at, all_append, all_front, all_back, all_from_contains, all_map, all_weaker}
use Rattle.ua_part.specs.Partitions.{Partition, IsPartition, SameBlock, identity_on, merged}
use Rattle.ua_part.proofs.PartitionLaws.{IsConstant, same_itself, same_back, same_through, identity-IsPartition, identity-same}
use Rattle.ua_part.proofs.MergeLaws.{length-merged, merged-IsPartition, merged-above, merged-relates, merged-constant}
use Rattle.ua_prod.specs.Congruences.{IsCongruence, RelatesAll, IsCg}
use Rattle.ua_prod.proofs.Compatible.{congruence_from_translations}
use Rattle.ua_prod.proofs.CongruenceLaws.{zip_left, zip_right}
use Rattle.ua_cong.specs.inner.Closings.{IsOne}
use Rattle.ua_cong.proofs.ClosingLaws.{at_range, all_of_range, related_more}
use Rattle.ua_matrix.specs.Centrality.{Variable, IsRelated}
use Rattle.ua_matrix.specs.Matrices.{marked, variables_of, matrix_of, matrix_generators, IsMatrix, AreMatrices}
use Rattle.ua_matrix.specs.Deltas.{IsAlgebraOfPairs, diagonal_pairs, matrix_of_rows, HasRelatedRows}
use Rattle.ua_matrix.proofs.Deciding.{variables_related, variable_in}

-- ---- the least partition that relates some pairs

abbrev AreBelow : ℕ → ℕ × ℕ → Type 0
AreBelow n pair = (pair.0 < n) × (pair.1 < n)

-- a partition that relates the pairs, and goes with each number that is the same at both of each
record Joined (n : ℕ) (pairs : List (ℕ × ℕ)) : Type 0 where
  whole : Partition
  partition : IsPartition whole
  size : length whole ≡ n
  relates : RelatesAll whole pairs
  constant : (g : ℕ → ℕ) → AllByRecursion (IsOne g) pairs → IsConstant g whole

joined : (n : ℕ) (pairs : List (ℕ × ℕ)) → AllByRecursion (AreBelow n) pairs → Joined n pairs
joined n [] h = record {
  whole = identity_on n;
  partition = identity-IsPartition n;
  size = length-range_with_len 0 n;
  relates = tt;
  constant = λ g all x y s. ap g (identity-same n x y s);
}
joined n (pair ∷ pairs) h =
    let rest = joined n pairs h.1 in
    let size = rest.size in
    let x : pair.0 < length rest.whole = (let w = h.0.0 in omega (arith, w, size)) in
    let y : pair.1 < length rest.whole = (let w = h.0.1 in omega (arith, w, size)) in
    record {
      whole = merged rest.whole pair.0 pair.1;
      partition = merged-IsPartition rest.whole rest.partition pair.0 pair.1 x y;
      size = length-merged rest.whole pair.0 pair.1 ∙ rest.size;
      relates = (merged-relates rest.whole rest.partition pair.0 pair.1 x y, related_more rest.whole (merged rest.whole pair.0 pair.1) pairs (merged-above rest.whole rest.partition pair.0 pair.1 x y) rest.relates);
      constant = λ g all. merged-constant rest.whole rest.partition pair.0 pair.1 x y g (rest.constant g all.1) all.0;
    }

-- ---- matrices by their rows

module _ (a : FiniteAlgebra) (alpha beta : Partition) (left right : ℕ → ℕ) (number : ℕ → ℕ → ℕ) (b : FiniteAlgebra) (h : IsAlgebraOfPairs a beta left right number b) where
  -- a matrix has these two rows
  pub record AreRows (d e : ℕ) : Type 0 where
    pub upper : d < b.size
    pub lower : e < b.size
    pub generated : IsMatrix a alpha beta (matrix_of_rows left right d e)

  abbrev rows_of : List ℕ → List ℕ → List Vector
  rows_of [] ys = []
  rows_of (x ∷ xs) [] = []
  rows_of (x ∷ xs) (y ∷ ys) = matrix_of_rows left right x y ∷ rows_of xs ys

  column_0 : (xs ys : List ℕ) → length xs ≡ length ys → column (rows_of xs ys) 0 ≡ map left xs
  column_0 [] ys n = refl
  column_0 (x ∷ xs) [] n = absurd (omega (arith, n))
  column_0 (x ∷ xs) (y ∷ ys) n = ap (λ (rest : List ℕ). left x ∷ rest) (column_0 xs ys (omega (arith, n)))

  column_1 : (xs ys : List ℕ) → length xs ≡ length ys → column (rows_of xs ys) 1 ≡ map right xs
  column_1 [] ys n = refl
  column_1 (x ∷ xs) [] n = absurd (omega (arith, n))
  column_1 (x ∷ xs) (y ∷ ys) n = ap (λ (rest : List ℕ). right x ∷ rest) (column_1 xs ys (omega (arith, n)))

  column_2 : (xs ys : List ℕ) → length xs ≡ length ys → column (rows_of xs ys) 2 ≡ map left ys
  column_2 [] [] n = refl
  column_2 [] (y ∷ ys) n = absurd (omega (arith, n))
  column_2 (x ∷ xs) [] n = absurd (omega (arith, n))
  column_2 (x ∷ xs) (y ∷ ys) n = ap (λ (rest : List ℕ). left y ∷ rest) (column_2 xs ys (omega (arith, n)))

  column_3 : (xs ys : List ℕ) → length xs ≡ length ys → column (rows_of xs ys) 3 ≡ map right ys
  column_3 [] [] n = refl
  column_3 [] (y ∷ ys) n = absurd (omega (arith, n))
  column_3 (x ∷ xs) [] n = absurd (omega (arith, n))
  column_3 (x ∷ xs) (y ∷ ys) n = ap (λ (rest : List ℕ). right y ∷ rest) (column_3 xs ys (omega (arith, n)))

  length_rows : (xs ys : List ℕ) → length xs ≡ length ys → length (rows_of xs ys) ≡ length xs
  length_rows [] ys n = refl
  length_rows (x ∷ xs) [] n = absurd (omega (arith, n))
  length_rows (x ∷ xs) (y ∷ ys) n = ap suc (length_rows xs ys (omega (arith, n)))

  -- an operation takes matrices to the matrix of the values of their rows
  module _ (f : ℕ) (xs ys : List ℕ) (w : f < length (arities_of a)) (count : length xs ≡ slice_index (arities_of a) f) (same : length xs ≡ length ys)
      (low : AllByRecursion (λ e. e < b.size) xs) (low' : AllByRecursion (λ e. e < b.size) ys) where
    at_0 : value_at a f (column (rows_of xs ys) 0) ≡ left (value_at b f xs)
    at_0 = ap (value_at a f) (column_0 xs ys same) ∙ sym (h.lefts f xs w count low)

    at_1 : value_at a f (column (rows_of xs ys) 1) ≡ right (value_at b f xs)
    at_1 = ap (value_at a f) (column_1 xs ys same) ∙ sym (h.rights f xs w count low)

    at_2 : value_at a f (column (rows_of xs ys) 2) ≡ left (value_at b f ys)
    at_2 = ap (value_at a f) (column_2 xs ys same) ∙ sym (h.lefts f ys w (sym same ∙ count) low')

    at_3 : value_at a f (column (rows_of xs ys) 3) ≡ right (value_at b f ys)
    at_3 = ap (value_at a f) (column_3 xs ys same) ∙ sym (h.rights f ys w (sym same ∙ count) low')

    rows_value : apply (replicate 4 a) f (rows_of xs ys) ≡ matrix_of_rows left right (value_at b f xs) (value_at b f ys)
    rows_value = λ i. at_0 i ∷ at_1 i ∷ at_2 i ∷ at_3 i ∷ []

  -- ---- rows of matrices are a reflexive and compatible relation

  generator_matrix : (v : Variable) → IsRelated alpha beta v → IsMatrix a alpha beta (matrix_of v)
  generator_matrix v r =
      let gens = matrix_generators alpha beta in
      let c : Contains (matrix_generators alpha beta) (matrix_of v) = Contains-map matrix_of v (variables_of alpha beta) (variable_in alpha beta v.is_alpha v.first v.second r) in
      subst (IsMatrix a alpha beta) (get_or_default (matrix_generators alpha beta) c.0 [] (matrix_of v) c.1 ∙ c.2) (generator_in (replicate 4 a) (matrix_generators alpha beta) c.0 c.1)

  rows_itself : (d : ℕ) → d < b.size → AreRows d d
  rows_itself d w = record { upper = w; lower = w; generated = generator_matrix (marked false (left d, right d)) (h.related d w) }

  uppers : (xs ys : List ℕ) → AllZip AreRows xs ys → AllByRecursion (λ e. e < b.size) xs
  uppers [] ys z = tt
  uppers (x ∷ xs) [] z = absurd z
  uppers (x ∷ xs) (y ∷ ys) z = (z.0.upper, uppers xs ys z.1)

  lowers : (xs ys : List ℕ) → AllZip AreRows xs ys → AllByRecursion (λ e. e < b.size) ys
  lowers [] [] z = tt
  lowers [] (y ∷ ys) z = absurd z
  lowers (x ∷ xs) [] z = absurd z
  lowers (x ∷ xs) (y ∷ ys) z = (z.0.lower, lowers xs ys z.1)

  all_generated : (xs ys : List ℕ) → AllZip AreRows xs ys → AllByRecursion (IsMatrix a alpha beta) (rows_of xs ys)
  all_generated [] ys z = tt
  all_generated (x ∷ xs) [] z = absurd z
  all_generated (x ∷ xs) (y ∷ ys) z = (z.0.generated, all_generated xs ys z.1)

  value_low : (f : ℕ) (xs : List ℕ) → f < length (arities_of a) → length xs ≡ slice_index (arities_of a) f → AllByRecursion (λ e. e < b.size) xs → value_at b f xs < b.size
  value_low f xs w count low = value-below b f xs h.algebra (subst (λ (ks : List ℕ). f < length ks) (sym h.arities) w) (count ∙ ap (λ (ks : List ℕ). slice_index ks f) (sym h.arities)) low

  rows_result : (f : ℕ) (xs ys : List ℕ) → f < length (arities_of a) → length xs ≡ slice_index (arities_of a) f → AllZip AreRows xs ys → AreRows (value_at b f xs) (value_at b f ys)
  rows_result f xs ys w count z =
      let same = AllZip-length AreRows xs ys z in
      let low = uppers xs ys z in
      let low' = lowers xs ys z in
      record {
        upper = value_low f xs w count low;
        lower = value_low f ys w (sym same ∙ count) low';
        generated = subst (IsMatrix a alpha beta) (rows_value f xs ys w count same low low') (result_in (replicate 4 a) (matrix_generators alpha beta) f (rows_of xs ys) w (length_rows xs ys same ∙ count) (all_generated xs ys z));
      }

  rows_around : (ps ss : List ℕ) (x y : ℕ) → AllByRecursion (λ e. e < b.size) ps → AllByRecursion (λ e. e < b.size) ss → AreRows x y → AllZip AreRows (ps ++ x ∷ ss) (ps ++ y ∷ ss)
  rows_around [] ss x y front back r = (r, itself ss back)
    where
      itself : (us : List ℕ) → AllByRecursion (λ e. e < b.size) us → AllZip AreRows us us
      itself [] w = tt
      itself (u ∷ us) w = (rows_itself u w.0, itself us w.1)
  rows_around (u ∷ us) ss x y front back r = (rows_itself u front.0, rows_around us ss x y front.1 back r)

  -- ---- the matrices lie in Delta

  module _ (ca : IsCongruence a alpha) (cb : IsCongruence a beta) (delta : Partition) (cg : IsCg b (diagonal_pairs number alpha) delta) where
    on_diagonal : (u : ℕ) → u < a.size → SameBlock beta u u
    on_diagonal u w = same_itself beta u (let n = cb.size in omega (arith, w, n))

    abbrev diagonal : ℕ → ℕ × ℕ
    diagonal u = (number u u, number (slice_index alpha u) (slice_index alpha u))

    leads : (u : ℕ) → u < length alpha → SameBlock delta (number u u) (number (slice_index alpha u) (slice_index alpha u))
    leads u w = at_range (λ (pair : ℕ × ℕ). SameBlock delta pair.0 pair.1) diagonal (length alpha) cg.relates u w

    variable_rows : (v : Variable) → IsRelated alpha beta v → HasRelatedRows left right delta (matrix_of v)
    variable_rows v r = by v.is_alpha r
      where
        by : (is : Bool) → MatchBool is (SameBlock alpha v.first v.second) (SameBlock beta v.first v.second) → HasRelatedRows left right delta (matrix_of (record { is_alpha = is; first = v.first; second = v.second }))
        by true s =
            let n = ca.size in
            let one = h.numbered v.first v.first (on_diagonal v.first (let l = s.left in omega (arith, l, n))) in
            let two = h.numbered v.second v.second (on_diagonal v.second (let l = s.right in omega (arith, l, n))) in
            record {
              upper = number v.first v.first;
              lower = number v.second v.second;
              related = same_through delta (number v.first v.first) (number (slice_index alpha v.first) (slice_index alpha v.first)) (number v.second v.second) (leads v.first s.left)
                  (subst (λ u. SameBlock delta (number u u) (number v.second v.second)) (sym s.same) (same_back delta (number v.second v.second) (number (slice_index alpha v.second) (slice_index alpha v.second)) (leads v.second s.right)));
              rows = λ i. sym one.1 i ∷ sym one.2 i ∷ sym two.1 i ∷ sym two.2 i ∷ [];
            }
        by false s =
            let n = cg.congruence.size in
            let one = h.numbered v.first v.second s in
            record {
              upper = number v.first v.second;
              lower = number v.first v.second;
              related = same_itself delta (number v.first v.second) (let w = one.0 in omega (arith, w, n));
              rows = λ i. sym one.1 i ∷ sym one.2 i ∷ sym one.1 i ∷ sym one.2 i ∷ [];
            }

    generators_rows : AllByRecursion (HasRelatedRows left right delta) (matrix_generators alpha beta)
    generators_rows = all_map (HasRelatedRows left right delta) matrix_of (variables_of alpha beta)
        (all_weaker (IsRelated alpha beta) (λ v. HasRelatedRows left right delta (matrix_of v)) variable_rows (variables_of alpha beta) (variables_related alpha beta))

    -- the values of some terms have related rows
    record HaveRelatedRows (ts : Trees) : Type 0 where
      uppers_are : List ℕ
      lowers_are : List ℕ
      count : length uppers_are ≡ count_of ts
      related : AllZip (SameBlock delta) uppers_are lowers_are
      rows : term_values (replicate 4 a) (matrix_generators alpha beta) ts ≡ rows_of uppers_are lowers_are

    mutual
      term_rows : (t : Tree) → IsTerm (arities_of a) (length (matrix_generators alpha beta)) t → HasRelatedRows left right delta (term_value (replicate 4 a) (matrix_generators alpha beta) t)
      term_rows (Generator j) is = All-from_recursion (HasRelatedRows left right delta) (matrix_generators alpha beta) generators_rows j [] is
      term_rows (Application f ts) is =
          let r = terms_rows ts is.2 in
          let xs = r.uppers_are in
          let ys = r.lowers_are in
          let same = AllZip-length (SameBlock delta) xs ys r.related in
          let n = cg.congruence.size in
          record {
            upper = value_at b f r.uppers_are;
            lower = value_at b f r.lowers_are;
            related = cg.congruence.compatible f xs ys (subst (λ (ks : List ℕ). f < length ks) (sym h.arities) is.0) (r.count ∙ is.1 ∙ ap (λ (ks : List ℕ). slice_index ks f) (sym h.arities)) r.related;
            rows = ap (apply (replicate 4 a) f) r.rows ∙ rows_value f xs ys is.0 (r.count ∙ is.1) same (zip_left delta b.size n xs ys r.related) (zip_right delta b.size n xs ys r.related);
          }

      terms_rows : (ts : Trees) → AreTerms (arities_of a) (length (matrix_generators alpha beta)) ts → HaveRelatedRows ts
      terms_rows none is = record { uppers_are = []; lowers_are = []; count = refl; related = tt; rows = refl }
      terms_rows (more t ts) is =
          let one = term_rows t is.0 in
          let rest = terms_rows ts is.1 in
          record {
            uppers_are = one.upper ∷ rest.uppers_are;
            lowers_are = one.lower ∷ rest.lowers_are;
            count = ap suc rest.count;
            related = (one.related, rest.related);
            rows = λ i. one.rows i ∷ rest.rows i;
          }

    pub rows_related : (m : Vector) → IsMatrix a alpha beta m → HasRelatedRows left right delta m
    rows_related m is = subst (HasRelatedRows left right delta) is.value (term_rows is.term is.is_term)

    -- ---- and Delta in their transitive closure

    module _ (matrices : List Vector) (exact : AreMatrices a alpha beta matrices) where
      -- the two rows of a matrix, by their numbers
      abbrev row_numbers : Vector → ℕ × ℕ
      row_numbers m = (number (slice_index m 0) (slice_index m 1), number (slice_index m 2) (slice_index m 3))

      pairs : List (ℕ × ℕ)
      pairs = map row_numbers matrices

      numbers_are : (d e : ℕ) → d < b.size → e < b.size → row_numbers (matrix_of_rows left right d e) ≡ (d, e)
      numbers_are d e dw ew = λ i. (h.one d dw i, h.one e ew i)

      pair_in : (d e : ℕ) → AreRows d e → Contains (map row_numbers matrices) (d, e)
      pair_in d e r = subst (Contains (map row_numbers matrices)) (numbers_are d e r.upper r.lower) (Contains-map row_numbers (matrix_of_rows left right d e) matrices ((exact (matrix_of_rows left right d e)).1 r.generated))

      pair_from : (pair : ℕ × ℕ) → Contains (map row_numbers matrices) pair → AreRows pair.0 pair.1
      pair_from pair c =
          let m = Contains-map_from row_numbers pair matrices c in
          let is = (exact m.0).0 m.1 in
          let r = rows_related m.0 is in
          let n = cg.congruence.size in
          let dw : r.upper < b.size = (let l = r.related.left in omega (arith, l, n)) in
          let ew : r.lower < b.size = (let l = r.related.right in omega (arith, l, n)) in
          let here : AreRows r.upper r.lower = record { upper = dw; lower = ew; generated = subst (IsMatrix a alpha beta) r.rows is } in
          let e : (r.upper, r.lower) ≡ pair = sym (numbers_are r.upper r.lower dw ew) ∙ ap row_numbers (sym r.rows) ∙ m.2 in
          subst (λ (p : ℕ × ℕ). AreRows p.0 p.1) e here

      all_below : AllByRecursion (AreBelow b.size) (map row_numbers matrices)
      all_below = all_from_contains (AreBelow b.size) (map row_numbers matrices) (λ pair c. let r = pair_from pair c in (r.upper, r.lower))

      -- the transitive closure of the matrices
      closure : Joined b.size (map row_numbers matrices)
      closure = joined b.size (map row_numbers matrices) all_below

      closure_relates : (t : Joined b.size (map row_numbers matrices)) (d e : ℕ) → AreRows d e → SameBlock t.whole d e
      closure_relates t d e r = all_at (λ (pair : ℕ × ℕ). SameBlock t.whole pair.0 pair.1) (map row_numbers matrices) (d, e) t.relates (pair_in d e r)

      closure_congruence : (t : Joined b.size (map row_numbers matrices)) → IsCongruence b t.whole
      closure_congruence t = congruence_from_translations b t.whole h.algebra t.partition t.size (λ f x y ps ss w count below yn s.
          let wa : f < length (arities_of a) = subst (λ (ks : List ℕ). f < length ks) h.arities w in
          let total : slice_index (arities_of b) f ≡ slice_index (arities_of a) f = ap (λ (ks : List ℕ). slice_index ks f) h.arities in
          let front = all_front (λ e. e < b.size) ps (x ∷ ss) below in
          let back = all_back (λ e. e < b.size) ps (x ∷ ss) below in
          let long = length-append ps (x ∷ ss) in
          let long' = length-append ps (y ∷ ss) in
          let one = value-below b f (ps ++ x ∷ ss) h.algebra w count below in
          let two = value-below b f (ps ++ y ∷ ss) h.algebra w (omega (arith, long, long', count)) (all_append (λ e. e < b.size) ps (y ∷ ss) front (yn, back.1)) in
          let n = t.size in
          record {
            left = omega (arith, one, n);
            right = omega (arith, two, n);
            same = t.constant (λ z. slice_index t.whole (value_at b f (ps ++ z ∷ ss)))
                (all_from_contains (IsOne (λ z. slice_index t.whole (value_at b f (ps ++ z ∷ ss)))) (map row_numbers matrices) (λ pair c.
                let long'' = length-append ps (pair.0 ∷ ss) in
                (closure_relates t (value_at b f (ps ++ pair.0 ∷ ss)) (value_at b f (ps ++ pair.1 ∷ ss))
                (rows_result f (ps ++ pair.0 ∷ ss) (ps ++ pair.1 ∷ ss) wa (omega (arith, long, long'', count, total)) (rows_around ps ss pair.0 pair.1 front back.1 (pair_from pair c)))).same))
                x y s;
          })

      diagonal_related : (t : Joined b.size (map row_numbers matrices)) → RelatesAll t.whole (diagonal_pairs number alpha)
      diagonal_related t = all_of_range (λ (pair : ℕ × ℕ). SameBlock t.whole pair.0 pair.1) diagonal (length alpha) (λ u w.
          let low = ca.partition.low u w in
          let n = ca.size in
          let v = slice_index alpha u in
          let one = h.numbered u u (on_diagonal u (omega (arith, w, n))) in
          let two = h.numbered (slice_index alpha u) (slice_index alpha u) (on_diagonal (slice_index alpha u) (omega (arith, low, w, n))) in
          let s : SameBlock alpha u (slice_index alpha u) = record { left = w; right = omega (arith, low, w); same = sym (ca.partition.least u w) } in
          let is : matrix_of (marked true (u, slice_index alpha u)) ≡ matrix_of_rows left right (number u u) (number (slice_index alpha u) (slice_index alpha u)) = (λ i. sym one.1 i ∷ sym one.2 i ∷ sym two.1 i ∷ sym two.2 i ∷ []) in
          closure_relates t (number u u) (number (slice_index alpha u) (slice_index alpha u))
          (record {
            upper = one.0;
            lower = two.0;
            generated = subst (IsMatrix a alpha beta) is
                (generator_matrix (marked true (u, slice_index alpha u)) s);
          }))

      -- Delta goes with each number that is the same at both rows of each matrix
      pub delta_constant : (g : ℕ → ℕ) → ((d e : ℕ) → AreRows d e → g d ≡ g e) → IsConstant g delta
      delta_constant g each d e s =
          let t = closure in
          let all : AllByRecursion (IsOne g) (map row_numbers matrices) = all_from_contains (IsOne g) (map row_numbers matrices) (λ pair c. each pair.0 pair.1 (pair_from pair c)) in
          t.constant g all d e (cg.least t.whole (closure_congruence t) (diagonal_related t) d e s)
