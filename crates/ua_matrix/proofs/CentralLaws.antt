-- What holds of centrality in general: alpha centralizes beta modulo each of the two.
use Rattle.std.proofs.Common.{ℕ, ◌<◌, Bool, true, false, cond, List, [], ◌∷◌, length, sym, subst, arith}
use Rattle.std.specs.Prelude.{MatchBool}
use Rattle.std.specs.List.{AllByRecursion, AllZip}
use Rattle.std.proofs.lemmas.List.{length-map}
use Rattle.ua_table.specs.Algebras.{Vector, FiniteAlgebra, arities_of}
use Rattle.ua_table.specs.Terms.{Tree, IsTerm, eval}
use Rattle.ua_table.proofs.Lists.{all_at, all_from_contains}
use Rattle.ua_part.specs.Partitions.{Partition, SameBlock}
use Rattle.ua_part.proofs.PartitionLaws.{same_itself, same_back, same_through}
use Rattle.ua_prod.specs.Congruences.{IsCongruence}
use Rattle.ua_prod.proofs.CongruenceLaws.{eval_related}
use Rattle.ua_matrix.specs.Centrality.{Variable, IsRelated, elements, Centralizes}
use Rattle.ua_matrix.specs.Matrices.{IsMatrix, AreMatrices, Goes, AllGo, Fails}
use Rattle.ua_matrix.proofs.Deciding.{matrices_from_condition, condition_from_matrices}

-- ---- centrality modulo either of the two

-- the element of a variable, by whether it is the second at alpha's variables, and at beta's
abbrev picked : Bool → Bool → Variable → ℕ
picked at_alpha at_beta v = cond (cond v.is_alpha at_alpha at_beta) v.second v.first

zipped : (p : Partition) (x y z w : Bool) (P : Variable → Type 0) → ((v : Variable) → P v → SameBlock p (picked x y v) (picked z w v)) → (vs : List Variable) → AllByRecursion P vs → AllZip (SameBlock p) (elements x y vs) (elements z w vs)
zipped p x y z w P each [] h = tt
zipped p x y z w P each (v ∷ vs) h = (each v h.0, zipped p x y z w P each vs h.1)

is_term_at : (a : FiniteAlgebra) (x y : Bool) (vs : List Variable) (t : Tree) → IsTerm (arities_of a) (length vs) t → IsTerm (arities_of a) (length (elements x y vs)) t
is_term_at a x y vs t is = subst (λ n. IsTerm (arities_of a) n t) (sym (length-map vs (picked x y))) is

module _ (a : FiniteAlgebra) (alpha beta : Partition) (ca : IsCongruence a alpha) (cb : IsCongruence a beta) where
  -- of a related variable, both elements are elements
  pub first_in : (v : Variable) → IsRelated alpha beta v → v.first < a.size
  first_in v h = by v.is_alpha h
    where
      by : (b : Bool) → MatchBool b (SameBlock alpha v.first v.second) (SameBlock beta v.first v.second) → v.first < a.size
      by true s = let l = s.left in let n = ca.size in omega (arith, l, n)
      by false s = let l = s.left in let n = cb.size in omega (arith, l, n)

  pub second_in : (v : Variable) → IsRelated alpha beta v → v.second < a.size
  second_in v h = by v.is_alpha h
    where
      by : (b : Bool) → MatchBool b (SameBlock alpha v.first v.second) (SameBlock beta v.first v.second) → v.second < a.size
      by true s = let r = s.right in let n = ca.size in omega (arith, r, n)
      by false s = let r = s.right in let n = cb.size in omega (arith, r, n)

  -- beta relates what differs at beta's variables alone
  along_beta : (x : Bool) (v : Variable) → IsRelated alpha beta v → SameBlock beta (picked x false v) (picked x true v)
  along_beta x v h = by v.is_alpha (first_in v h) (second_in v h) h
    where
      itself : (k : ℕ) → k < a.size → SameBlock beta k k
      itself k w = same_itself beta k (let n = cb.size in omega (arith, w, n))

      chosen : (b : Bool) → v.first < a.size → v.second < a.size → SameBlock beta (cond b v.second v.first) (cond b v.second v.first)
      chosen true one two = itself v.second two
      chosen false one two = itself v.first one

      by : (b : Bool) → v.first < a.size → v.second < a.size → MatchBool b (SameBlock alpha v.first v.second) (SameBlock beta v.first v.second)
          → SameBlock beta (cond (cond b x false) v.second v.first) (cond (cond b x true) v.second v.first)
      by true one two s = chosen x one two
      by false one two s = s

  -- and alpha what differs at alpha's
  along_alpha : (y : Bool) (v : Variable) → IsRelated alpha beta v → SameBlock alpha (picked false y v) (picked true y v)
  along_alpha y v h = by v.is_alpha (first_in v h) (second_in v h) h
    where
      itself : (k : ℕ) → k < a.size → SameBlock alpha k k
      itself k w = same_itself alpha k (let n = ca.size in omega (arith, w, n))

      chosen : (b : Bool) → v.first < a.size → v.second < a.size → SameBlock alpha (cond b v.second v.first) (cond b v.second v.first)
      chosen true one two = itself v.second two
      chosen false one two = itself v.first one

      by : (b : Bool) → v.first < a.size → v.second < a.size → MatchBool b (SameBlock alpha v.first v.second) (SameBlock beta v.first v.second)
          → SameBlock alpha (cond (cond b false y) v.second v.first) (cond (cond b true y) v.second v.first)
      by true one two s = s
      by false one two s = chosen y one two

  pub centralizes_second : Centralizes a alpha beta beta
  centralizes_second t vs is h e =
      eval_related a beta cb (elements true false vs) (elements true true vs)
      (zipped beta true false true true (IsRelated alpha beta) (along_beta true) vs h) t (is_term_at a true false vs t is)

  pub centralizes_first : Centralizes a alpha beta alpha
  centralizes_first t vs is h e =
      let left = eval_related a alpha ca (elements false false vs) (elements true false vs)
      (zipped alpha false false true false (IsRelated alpha beta) (along_alpha false) vs h) t (is_term_at a false false vs t is) in
      let right = eval_related a alpha ca (elements false true vs) (elements true true vs)
      (zipped alpha false true true true (IsRelated alpha beta) (along_alpha true) vs h) t (is_term_at a false true vs t is) in
      same_through alpha (eval a (elements true false vs) t) (eval a (elements false false vs) t) (eval a (elements true true vs) t)
      (same_back alpha (eval a (elements false false vs) t) (eval a (elements true false vs) t) left)
      (same_through alpha (eval a (elements false false vs) t) (eval a (elements false true vs) t) (eval a (elements true true vs) t) e right)

-- ---- centrality, read off a list of the matrices

module _ (a : FiniteAlgebra) (alpha beta delta : Partition) (matrices : List Vector) (exact : AreMatrices a alpha beta matrices) where
  pub centralizes_from_list : AllGo delta matrices → Centralizes a alpha beta delta
  centralizes_from_list h = condition_from_matrices a alpha beta delta (λ m is. all_at (Goes delta) matrices m h ((exact m).1 is))

  pub list_from_centralizes : Centralizes a alpha beta delta → AllGo delta matrices
  list_from_centralizes h = all_from_contains (Goes delta) matrices (λ m c. matrices_from_condition a alpha beta delta h m ((exact m).0 c))

-- a matrix that fails refutes it
pub not_central : (a : FiniteAlgebra) (alpha beta delta : Partition) (m : Vector) → IsMatrix a alpha beta m → Fails delta m → ¬ Centralizes a alpha beta delta
not_central a alpha beta delta m is f h = f.second (matrices_from_condition a alpha beta delta h m is f.first)
