-- The term condition, read off the blocks of Delta, and how many matrices there are at most.
use Rattle.std.proofs.Common.{◌≡◌, ℕ, ◌<◌, Bool, true, false, cond, List, [], ◌∷◌, length, map, replicate, refl, sym, ap, ◌∙◌, subst, arith, ⊎_elim}
use Rattle.std.specs.Prelude.{Contains, MatchBool, ◌==◌, slice_index, slice_get, Some}
use Rattle.std.specs.List.{AllByRecursion, range_with_len}
use Rattle.std.proofs.lemmas.Bool.{cases_eq, eq-eqb, ne_eqb}
use Rattle.std.proofs.lemmas.List.{length-map}
use Rattle.std.proofs.lemmas.List.Elements.{All-from_recursion}
use Rattle.ua_table.specs.Algebras.{Vector, FiniteAlgebra, arities_of, column}
use Rattle.ua_table.specs.Counting.{one_if}
use Rattle.ua_table.specs.Generated.{HasMoreThan}
use Rattle.ua_table.specs.Terms.{IsTerm, eval}
use Rattle.ua_table.proofs.Choices.{in_range, range_low}
use Rattle.ua_table.proofs.ListingLaws.{length-le_from_members}
use Rattle.ua_table.proofs.Lists.{Contains-map, Contains-flat_map, Contains-flat_map_from, Contains-head, Contains-tail, Contains-cases, Contains-none, all_at, all_from_contains}
use Rattle.ua_table.proofs.TermLaws.{value_is_eval}
use Rattle.ua_part.specs.Partitions.{Partition, SameBlock, LiesBelow}
use Rattle.ua_part.specs.Pairs.{related_pairs}
use Rattle.ua_part.proofs.PartitionLaws.{leader_same, same_back}
use Rattle.ua_part.proofs.RelatedLaws.{related_in}
use Rattle.ua_prod.specs.Congruences.{IsCongruence}
use Rattle.ua_matrix.specs.Centrality.{Variable, IsRelated, elements, Centralizes}
use Rattle.ua_matrix.specs.Matrices.{variables_of, matrix_of, matrix_generators, IsMatrix, AreMatrices, Goes, AllGo, AreFour}
use Rattle.ua_matrix.specs.Deltas.{IsDelta, matrix_of_rows, HasRelatedRows, AreUniform}
use Rattle.ua_matrix.specs.inner.Deltas.{leading_matrices}
use Rattle.ua_matrix.proofs.Deciding.{variables_related, at_0, at_1, at_2, at_3, matrices_from_condition, condition_from_matrices}
use Rattle.ua_matrix.proofs.DeltaLaws.{AreRows, rows_related, delta_constant}

-- ---- the term condition, from the second row to the first

-- a variable of alpha with its elements exchanged
abbrev turned : Variable → Variable
turned v = record { is_alpha = v.is_alpha; first = cond v.is_alpha v.second v.first; second = cond v.is_alpha v.first v.second }

turned_related : (alpha beta : Partition) (vs : List Variable) → AllByRecursion (IsRelated alpha beta) vs → AllByRecursion (IsRelated alpha beta) (map turned vs)
turned_related alpha beta [] h = tt
turned_related alpha beta (v ∷ vs) h = (by v.is_alpha h.0, turned_related alpha beta vs h.1)
  where
    by : (is : Bool) → MatchBool is (SameBlock alpha v.first v.second) (SameBlock beta v.first v.second)
        → MatchBool is (SameBlock alpha (cond is v.second v.first) (cond is v.first v.second))
        (SameBlock beta (cond is v.second v.first) (cond is v.first v.second))
    by true s = same_back alpha v.first v.second s
    by false s = s

turned_elements : (x y : Bool) (vs : List Variable) → elements x y (map turned vs) ≡ elements (cond x false true) y vs
turned_elements x y [] = refl
turned_elements x y (v ∷ vs) = λ i. one v.is_alpha x y i ∷ turned_elements x y vs i
  where
    one : (is x y : Bool) → cond (cond is x y) (cond is v.first v.second) (cond is v.second v.first) ≡ cond (cond is (cond x false true) y) v.second v.first
    one true true y = refl
    one true false y = refl
    one false x y = refl

module _ (a : FiniteAlgebra) (alpha beta theta : Partition) (h : Centralizes a alpha beta theta) where
  goes_back : (m : Vector) → IsMatrix a alpha beta m → SameBlock theta (slice_index m 2) (slice_index m 3) → SameBlock theta (slice_index m 0) (slice_index m 1)
  goes_back m s e =
      let vs = variables_of alpha beta in
      let gens = matrix_generators alpha beta in
      let is : IsTerm (arities_of a) (length (map turned (variables_of alpha beta))) s.term = subst (λ n. IsTerm (arities_of a) n s.term) (length-map vs matrix_of ∙ sym (length-map vs turned)) s.is_term in
      let entry : (i : ℕ) → slice_get (replicate 4 a) i ≡ Some a → slice_index m i ≡ eval a (column gens i) s.term = (λ i at. ap (λ (w : Vector). slice_index w i) (sym s.value) ∙ value_is_eval (replicate 4 a) gens i a at s.term) in
      let p = entry 0 refl ∙ ap (λ (xs : List ℕ). eval a xs s.term) (at_0 vs ∙ sym (turned_elements true false vs)) in
      let q = entry 1 refl ∙ ap (λ (xs : List ℕ). eval a xs s.term) (at_1 vs ∙ sym (turned_elements true true vs)) in
      let r = entry 2 refl ∙ ap (λ (xs : List ℕ). eval a xs s.term) (at_2 vs ∙ sym (turned_elements false false vs)) in
      let t = entry 3 refl ∙ ap (λ (xs : List ℕ). eval a xs s.term) (at_3 vs ∙ sym (turned_elements false true vs)) in
      let first = subst (λ x. SameBlock theta x (eval a (elements false true (map turned vs)) s.term)) r (subst (SameBlock theta (slice_index m 2)) t e) in
      let second = h s.term (map turned vs) is (turned_related alpha beta vs (variables_related alpha beta)) first in
      subst (SameBlock theta (slice_index m 0)) (sym q) (subst (λ x. SameBlock theta x (eval a (elements true true (map turned vs)) s.term)) (sym p) second)

-- ---- the blocks of Delta

module _ (a : FiniteAlgebra) (alpha beta : Partition) (left right : ℕ → ℕ) (number : ℕ → ℕ → ℕ) (b : FiniteAlgebra) (delta : Partition)
    (ca : IsCongruence a alpha) (cb : IsCongruence a beta) (is_delta : IsDelta a alpha beta left right number b delta) where
  pub delta_related : (m : Vector) → IsMatrix a alpha beta m → HasRelatedRows left right delta m
  delta_related = rows_related a alpha beta left right number b is_delta.pairs ca cb delta is_delta.generated

  -- theta relates the pair, as a number
  abbrev is_in : Partition → ℕ → ℕ
  is_in theta e = one_if (slice_index theta (left e) == slice_index theta (right e))

  in_is : (theta : Partition) (e : ℕ) → SameBlock theta (left e) (right e) → is_in theta e ≡ 1
  in_is theta e s = ap one_if (eq-eqb (slice_index theta (left e)) (slice_index theta (right e)) s.same)

  out_is : (theta : Partition) (e : ℕ) → (slice_index theta (left e) ≡ slice_index theta (right e) → ⊥) → is_in theta e ≡ 0
  out_is theta e n = ap one_if (ne_eqb (slice_index theta (left e)) (slice_index theta (right e)) n)

  -- the elements of a pair are members of each partition of the elements
  inside : (theta : Partition) → length theta ≡ a.size → (e : ℕ) → e < b.size → slice_index theta (left e) ≡ slice_index theta (right e) → SameBlock theta (left e) (right e)
  inside theta size e w same =
      let s = is_delta.pairs.related e w in
      let l = s.left in
      let r = s.right in
      let n = cb.size in
      record { left = omega (arith, l, n, size); right = omega (arith, r, n, size); same = same }

  pub condition_from_blocks : (theta : Partition) → AreUniform left right delta theta → Centralizes a alpha beta theta
  condition_from_blocks theta uniform = condition_from_matrices a alpha beta theta (λ m is.
      let r = delta_related m is in
      subst (Goes theta) (sym r.rows) (uniform r.upper r.lower r.related))

  module _ (matrices : List Vector) (exact : AreMatrices a alpha beta matrices) where
    rows_alike : (theta : Partition) → IsCongruence a theta → Centralizes a alpha beta theta → (d e : ℕ) → AreRows a alpha beta left right number b is_delta.pairs d e → is_in theta d ≡ is_in theta e
    rows_alike theta ct central d e r =
        ⊎_elim
        (λ same.
        let s = inside theta ct.size d r.upper same in
        in_is theta d s ∙ sym (in_is theta e (matrices_from_condition a alpha beta theta central (matrix_of_rows left right d e) r.generated s)))
        (λ apart. out_is theta d apart ∙ sym (out_is theta e (λ same. apart (goes_back a alpha beta theta central (matrix_of_rows left right d e) r.generated (inside theta ct.size e r.lower same)).same)))
        (cases_eq (slice_index theta (left d)) (slice_index theta (right d)))

    pub blocks_from_condition : (theta : Partition) → IsCongruence a theta → Centralizes a alpha beta theta → AreUniform left right delta theta
    blocks_from_condition theta ct central d e s first =
        let alike = delta_constant a alpha beta left right number b is_delta.pairs ca cb delta is_delta.generated matrices exact (is_in theta) (rows_alike theta ct central) d e s in
        let n = is_delta.generated.congruence.size in
        let w : e < b.size = (let r = s.right in omega (arith, r, n)) in
        let one = in_is theta d first in
        ⊎_elim
        (λ same. inside theta ct.size e w same)
        (λ apart. let none = out_is theta e apart in absurd (omega (arith, alike, one, none)))
        (cases_eq (slice_index theta (left e)) (slice_index theta (right e)))

    -- a partition that relates the rows of each matrix lies above Delta
    pub delta_least : (q : Partition) → length q ≡ b.size → ((d e : ℕ) → d < b.size → e < b.size → IsMatrix a alpha beta (matrix_of_rows left right d e) → SameBlock q d e) → LiesBelow delta q
    delta_least q size each d e s =
        let n = is_delta.generated.congruence.size in
        let l = s.left in
        let r = s.right in
        record {
          left = omega (arith, l, n, size);
          right = omega (arith, r, n, size);
          same = delta_constant a alpha beta left right number b is_delta.pairs ca cb delta is_delta.generated matrices exact (slice_index q) (λ x y rows. (each x y rows.upper rows.lower rows.generated).same) d e s;
        }

  -- ---- the leading matrices

  -- the two matrices of an element
  abbrev leading : ℕ → List Vector
  leading e = matrix_of_rows left right (slice_index delta e) e ∷ matrix_of_rows left right e (slice_index delta e) ∷ []

  leader_of : (e : ℕ) → e < length delta → SameBlock delta e (slice_index delta e)
  leader_of e w = leader_same delta is_delta.generated.congruence.partition e w

  pub leading_from_blocks : (theta : Partition) → AreUniform left right delta theta → AllGo theta (leading_matrices left right delta)
  leading_from_blocks theta uniform = all_from_contains (Goes theta) (leading_matrices left right delta) (λ m c.
      let at = Contains-flat_map_from leading m (range_with_len 0 (length delta)) c in
      let low = range_low 0 (length delta) at.0 at.1 in
      let s = leader_of at.0 (omega (arith, low.1)) in
      ⊎_elim
      (λ is. subst (Goes theta) is (uniform (slice_index delta at.0) at.0 (same_back delta at.0 (slice_index delta at.0) s)))
      (λ other. ⊎_elim (λ is. subst (Goes theta) is (uniform at.0 (slice_index delta at.0) s)) (λ none. absurd (Contains-none m none)) (Contains-cases (matrix_of_rows left right at.0 (slice_index delta at.0)) m [] other))
      (Contains-cases (matrix_of_rows left right (slice_index delta at.0) at.0) m (matrix_of_rows left right at.0 (slice_index delta at.0) ∷ []) at.2))

  pub blocks_from_leading : (theta : Partition) → AllGo theta (leading_matrices left right delta) → AreUniform left right delta theta
  blocks_from_leading theta all d e s first =
      let down =
      at d s.left (matrix_of_rows left right d (slice_index delta d))
      (Contains-tail (matrix_of_rows left right (slice_index delta d) d) (matrix_of_rows left right d (slice_index delta d))
      (matrix_of_rows left right d (slice_index delta d) ∷ []) (Contains-head (matrix_of_rows left right d (slice_index delta d)) [])) in
      let up = at e s.right (matrix_of_rows left right (slice_index delta e) e) (Contains-head (matrix_of_rows left right (slice_index delta e) e) (matrix_of_rows left right e (slice_index delta e) ∷ [])) in
      up (subst (λ l. SameBlock theta (left l) (right l)) s.same (down first))
    where
      at : (k : ℕ) → k < length delta → (m : Vector) → Contains (leading k) m → Goes theta m
      at k w m c = all_at (Goes theta) (leading_matrices left right delta) m all (Contains-flat_map leading k m (range_with_len 0 (length delta)) (in_range 0 (length delta) k (omega arith) (omega (arith, w))) c)

  -- they are lists of four elements
  pub leading_four : AllByRecursion (AreFour a.size) (leading_matrices left right delta)
  leading_four = all_from_contains (AreFour a.size) (leading_matrices left right delta) (λ m c.
      let at = Contains-flat_map_from leading m (range_with_len 0 (length delta)) c in
      let low = range_low 0 (length delta) at.0 at.1 in
      let s = leader_of at.0 (omega (arith, low.1)) in
      let n = is_delta.generated.congruence.size in
      let one = pair_within at.0 (let l = s.left in omega (arith, l, n)) in
      let two = pair_within (slice_index delta at.0) (let r = s.right in omega (arith, r, n)) in
      ⊎_elim
      (λ is. subst (AreFour a.size) is (record { width = refl; below = (two.0, (two.1, (one.0, (one.1, tt)))) }))
      (λ other.
      ⊎_elim (λ is. subst (AreFour a.size) is (record { width = refl; below = (one.0, (one.1, (two.0, (two.1, tt)))) }))
      (λ none. absurd (Contains-none m none)) (Contains-cases (matrix_of_rows left right at.0 (slice_index delta at.0)) m [] other))
      (Contains-cases (matrix_of_rows left right (slice_index delta at.0) at.0) m (matrix_of_rows left right at.0 (slice_index delta at.0) ∷ []) at.2))
    where
      pair_within : (e : ℕ) → e < b.size → (left e < a.size) × (right e < a.size)
      pair_within e w =
          let s = is_delta.pairs.related e w in
          let l = s.left in
          let r = s.right in
          let n = cb.size in
          (omega (arith, l, n), omega (arith, r, n))

  -- ---- how many matrices there are

  abbrev related_matrix : ℕ × ℕ → Vector
  related_matrix pair = matrix_of_rows left right pair.0 pair.1

  pub few_matrices : (n : ℕ) → HasMoreThan (replicate 4 a) (matrix_generators alpha beta) n → n < length (related_pairs delta)
  few_matrices n more =
      let long = length-le_from_members more.members (map related_matrix (related_pairs delta)) more.increasing (λ m c.
      let is = subst (IsMatrix a alpha beta) c.2 (All-from_recursion (IsMatrix a alpha beta) more.members more.generated c.0 m c.1) in
      let r = delta_related m is in
      subst (Contains (map related_matrix (related_pairs delta))) (sym r.rows) (Contains-map related_matrix (r.upper, r.lower) (related_pairs delta) (related_in delta r.upper r.lower r.related))) in
      let count = length-map (related_pairs delta) related_matrix in
      let size = more.count in
      omega (arith, long, count, size)
