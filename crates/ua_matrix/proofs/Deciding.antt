-- The matrices decide the term condition, over all terms and all markings.
use Rattle.std.proofs.Common.{◌≡◌, ℕ, zero, suc, ◌<◌, Bool, true, false, cond, List, [], ◌∷◌, length, map, get_or, replicate, refl, sym, ap, ◌∙◌, subst, arith, Some}
use Rattle.std.specs.Prelude.{Contains, slice_index, slice_get}
use Rattle.std.specs.List.{AllByRecursion}
use Rattle.std.proofs.lemmas.List.{length-map, get_or-map}
use Rattle.std.proofs.lemmas.List.Elements.{Contains-append_left, Contains-append_right}
use Rattle.ua_table.specs.Algebras.{Vector, FiniteAlgebra, arities_of, value_at, column}
use Rattle.ua_table.specs.Terms.{Tree, Generator, Application, Trees, none, more, count_of, IsTerm, AreTerms, term_value, eval, eval_all}
use Rattle.ua_table.proofs.Lists.{Contains-map, Contains-map_from, all_from_contains, all_append}
use Rattle.ua_table.proofs.TermLaws.{value_is_eval}
use Rattle.ua_part.specs.Partitions.{Partition, SameBlock}
use Rattle.ua_part.specs.Pairs.{related_pairs}
use Rattle.ua_part.proofs.RelatedLaws.{related_in, related_from}
use Rattle.ua_matrix.specs.Centrality.{Variable, IsRelated, elements, Centralizes}
use Rattle.ua_matrix.specs.Matrices.{marked, variables_of, matrix_of, matrix_generators, IsMatrix, MatricesCentralize}

-- ---- the variables

pub variables_related : (alpha beta : Partition) → AllByRecursion (IsRelated alpha beta) (variables_of alpha beta)
variables_related alpha beta =
    all_append (IsRelated alpha beta) (map (marked true) (related_pairs alpha)) (map (marked false) (related_pairs beta))
    (all_from_contains (IsRelated alpha beta) (map (marked true) (related_pairs alpha)) (λ v c. let m = Contains-map_from (marked true) v (related_pairs alpha) c in subst (IsRelated alpha beta) m.2 (related_from alpha m.0 m.1)))
    (all_from_contains (IsRelated alpha beta) (map (marked false) (related_pairs beta)) (λ v c. let m = Contains-map_from (marked false) v (related_pairs beta) c in subst (IsRelated alpha beta) m.2 (related_from beta m.0 m.1)))

pub variable_in : (alpha beta : Partition) (is_alpha : Bool) (x y : ℕ) → IsRelated alpha beta (record { is_alpha = is_alpha; first = x; second = y })
    → Contains (variables_of alpha beta) (record { is_alpha = is_alpha; first = x; second = y })
variable_in alpha beta true x y h = Contains-append_left (map (marked true) (related_pairs alpha)) (map (marked false) (related_pairs beta)) _ (Contains-map (marked true) (x, y) (related_pairs alpha) (related_in alpha x y h))
variable_in alpha beta false x y h = Contains-append_right (map (marked true) (related_pairs alpha)) (map (marked false) (related_pairs beta)) _ (Contains-map (marked false) (x, y) (related_pairs beta) (related_in beta x y h))

-- the entries of the matrices of variables are their elements
pub at_0 : (vs : List Variable) → column (map matrix_of vs) 0 ≡ elements false false vs
at_0 [] = refl
at_0 (v ∷ vs) = (λ i. same v.is_alpha i ∷ at_0 vs i)
  where
    same : (b : Bool) → v.first ≡ cond (cond b false false) v.second v.first
    same true = refl
    same false = refl

pub at_1 : (vs : List Variable) → column (map matrix_of vs) 1 ≡ elements false true vs
at_1 [] = refl
at_1 (v ∷ vs) = (λ i. same v.is_alpha i ∷ at_1 vs i)
  where
    same : (b : Bool) → cond b v.first v.second ≡ cond (cond b false true) v.second v.first
    same true = refl
    same false = refl

pub at_2 : (vs : List Variable) → column (map matrix_of vs) 2 ≡ elements true false vs
at_2 [] = refl
at_2 (v ∷ vs) = (λ i. same v.is_alpha i ∷ at_2 vs i)
  where
    same : (b : Bool) → cond b v.second v.first ≡ cond (cond b true false) v.second v.first
    same true = refl
    same false = refl

pub at_3 : (vs : List Variable) → column (map matrix_of vs) 3 ≡ elements true true vs
at_3 [] = refl
at_3 (v ∷ vs) = (λ i. same v.is_alpha i ∷ at_3 vs i)
  where
    same : (b : Bool) → v.second ≡ cond (cond b true true) v.second v.first
    same true = refl
    same false = refl

-- ---- from the term condition to the matrices

pub matrices_from_condition : (a : FiniteAlgebra) (alpha beta delta : Partition) → Centralizes a alpha beta delta → MatricesCentralize a alpha beta delta
matrices_from_condition a alpha beta delta h m s e =
    let vs = variables_of alpha beta in
    let gens = matrix_generators alpha beta in
    let is = subst (λ n. IsTerm (arities_of a) n s.term) (length-map vs matrix_of) s.is_term in
    let entry : (i : ℕ) → slice_get (replicate 4 a) i ≡ Some a → slice_index m i ≡ eval a (column gens i) s.term = (λ i at. ap (λ (w : Vector). slice_index w i) (sym s.value) ∙ value_is_eval (replicate 4 a) gens i a at s.term) in
    let p = entry 0 refl ∙ ap (λ (xs : List ℕ). eval a xs s.term) (at_0 vs) in
    let q = entry 1 refl ∙ ap (λ (xs : List ℕ). eval a xs s.term) (at_1 vs) in
    let r = entry 2 refl ∙ ap (λ (xs : List ℕ). eval a xs s.term) (at_2 vs) in
    let t = entry 3 refl ∙ ap (λ (xs : List ℕ). eval a xs s.term) (at_3 vs) in
    let first = subst (λ x. SameBlock delta x (eval a (elements false true vs) s.term)) p (subst (SameBlock delta (slice_index m 0)) q e) in
    let second = h s.term vs is (variables_related alpha beta) first in
    subst (SameBlock delta (slice_index m 2)) (sym t) (subst (λ x. SameBlock delta x (eval a (elements true true vs) s.term)) (sym r) second)

-- ---- and back

-- the term with each variable under another number
abbrev mutual
  renamed : List ℕ → Tree → Tree
  renamed names (Generator j) = Generator (slice_index names j)
  renamed names (Application f ts) = Application f (all_renamed names ts)

  all_renamed : List ℕ → Trees → Trees
  all_renamed names none = none
  all_renamed names (more t ts) = more (renamed names t) (all_renamed names ts)

count-renamed : (names : List ℕ) (ts : Trees) → count_of (all_renamed names ts) ≡ count_of ts
count-renamed names none = refl
count-renamed names (more t ts) = ap suc (count-renamed names ts)

module _ (names : List ℕ) (n m : ℕ) (ks : List ℕ) (within : (j : ℕ) → j < n → slice_index names j < m) where
  mutual
    renamed_term : (t : Tree) → IsTerm ks n t → IsTerm ks m (renamed names t)
    renamed_term (Generator j) h = within j h
    renamed_term (Application f ts) h = (h.0, count-renamed names ts ∙ h.1, renamed_terms ts h.2)

    renamed_terms : (ts : Trees) → AreTerms ks n ts → AreTerms ks m (all_renamed names ts)
    renamed_terms none h = tt
    renamed_terms (more t ts) h = (renamed_term t h.0, renamed_terms ts h.1)

module _ (a : FiniteAlgebra) (names xs ys : List ℕ) (n : ℕ) (same : (j : ℕ) → j < n → slice_index xs (slice_index names j) ≡ slice_index ys j) where
  mutual
    eval_renamed : (t : Tree) → IsTerm (arities_of a) n t → eval a xs (renamed names t) ≡ eval a ys t
    eval_renamed (Generator j) h = same j h
    eval_renamed (Application f ts) h = ap (value_at a f) (evals_renamed ts h.2)

    evals_renamed : (ts : Trees) → AreTerms (arities_of a) n ts → eval_all a xs (all_renamed names ts) ≡ eval_all a ys ts
    evals_renamed none h = refl
    evals_renamed (more t ts) h = (λ i. eval_renamed t h.0 i ∷ evals_renamed ts h.1 i)

-- where variables stand among others
record Named (vars vs : List Variable) : Type 0 where
  names : List ℕ
  count : length names ≡ length vs
  within : (j : ℕ) → j < length vs → slice_index names j < length vars
  pick : (f : Variable → ℕ) (j : ℕ) → j < length vs → slice_index (map f vars) (slice_index names j) ≡ slice_index (map f vs) j

named : (vars vs : List Variable) → AllByRecursion (Contains vars) vs → Named vars vs
named vars [] h = record { names = []; count = refl; within = λ j l. absurd (omega (arith, l)); pick = λ f j l. absurd (omega (arith, l)) }
named vars (v ∷ vs) h =
    let rest = named vars vs h.1 in
    let c = h.0 in
    record { names = c.0 ∷ rest.names; count = ap suc rest.count; within = low c.0 c.1 rest.names rest.within; pick = λ f. picked f c.0 c.1 c.2 rest.names (rest.pick f) }
  where
    low : (k : ℕ) → k < length vars → (names : List ℕ) → ((j : ℕ) → j < length vs → slice_index names j < length vars) → (j : ℕ) → j < length (v ∷ vs) → slice_index (k ∷ names) j < length vars
    low k h names w zero l = h
    low k h names w (suc j) l = w j (omega (arith, l))

    picked : (f : Variable → ℕ) (k : ℕ) → k < length vars → get_or vars k v ≡ v → (names : List ℕ)
        → ((j : ℕ) → j < length vs → slice_index (map f vars) (slice_index names j) ≡ slice_index (map f vs) j) → (j : ℕ) → j < length (v ∷ vs)
        → slice_index (map f vars) (slice_index (k ∷ names) j) ≡ slice_index (map f (v ∷ vs)) j
    picked f k h e names w zero l = get_or-map f vars k v 0 h ∙ ap f e
    picked f k h e names w (suc j) l = w j (omega (arith, l))

all_named : (alpha beta : Partition) (vs : List Variable) → AllByRecursion (IsRelated alpha beta) vs → AllByRecursion (Contains (variables_of alpha beta)) vs
all_named alpha beta [] h = tt
all_named alpha beta (v ∷ vs) h = (variable_in alpha beta v.is_alpha v.first v.second h.0, all_named alpha beta vs h.1)

pub condition_from_matrices : (a : FiniteAlgebra) (alpha beta delta : Partition) → MatricesCentralize a alpha beta delta → Centralizes a alpha beta delta
condition_from_matrices a alpha beta delta h t vs is related e =
    let vars = variables_of alpha beta in
    let gens = matrix_generators alpha beta in
    let n = named vars vs (all_named alpha beta vs related) in
    let s = renamed n.names t in
    let m = term_value (replicate 4 a) gens s in
    let is_s : IsTerm (arities_of a) (length gens) s = subst (λ k. IsTerm (arities_of a) k s) (sym (length-map vars matrix_of)) (renamed_term n.names (length vs) (length vars) (arities_of a) n.within t is) in
    let member : IsMatrix a alpha beta m = record { term = s; is_term = is_s; value = refl } in
    let p = entry n.names 0 false false refl (at_0 vars) n.pick in
    let q = entry n.names 1 false true refl (at_1 vars) n.pick in
    let r = entry n.names 2 true false refl (at_2 vars) n.pick in
    let z = entry n.names 3 true true refl (at_3 vars) n.pick in
    let first = subst (λ x. SameBlock delta x (slice_index m 1)) (sym p) (subst (SameBlock delta (eval a (elements false false vs) t)) (sym q) e) in
    let second = h m member first in
    subst (SameBlock delta (eval a (elements true false vs) t)) z (subst (λ x. SameBlock delta x (slice_index m 3)) r second)
  where
    entry : (names : List ℕ) (i : ℕ) (x y : Bool) → slice_get (replicate 4 a) i ≡ Some a → column (matrix_generators alpha beta) i ≡ elements x y (variables_of alpha beta)
        → ((f : Variable → ℕ) (j : ℕ) → j < length vs → slice_index (map f (variables_of alpha beta)) (slice_index names j) ≡ slice_index (map f vs) j)
        → slice_index (term_value (replicate 4 a) (matrix_generators alpha beta) (renamed names t)) i ≡ eval a (elements x y vs) t
    entry names i x y at columns pick =
        value_is_eval (replicate 4 a) (matrix_generators alpha beta) i a at (renamed names t)
        ∙ ap (λ (xs : List ℕ). eval a xs (renamed names t)) columns
        ∙ eval_renamed a names (elements x y (variables_of alpha beta)) (elements x y vs) (length vs) (λ j l. pick (λ (v : Variable). cond (cond v.is_alpha x y) v.second v.first) j l) t is
