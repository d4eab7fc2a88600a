-- A congruence goes with every term; equality is a congruence, and so is the partition with one block.
use Rattle.std.proofs.Common.{◌≡◌, ℕ, zero, suc, ◌<◌, List, [], ◌∷◌, length, refl, sym, ap, ◌∙◌, subst, arith}
use Rattle.std.specs.Prelude.{slice_index}
use Rattle.std.specs.List.{AllByRecursion, AllZip}
use Rattle.std.proofs.lemmas.List.{length-replicate}
use Rattle.std.proofs.lemmas.List.FromFn.{length-range_with_len}
use Rattle.ua_table.specs.Algebras.{FiniteAlgebra, IsAlgebra, arities_of, value_at}
use Rattle.ua_table.specs.Terms.{Tree, Generator, Application, Trees, none, more, count_of, IsTerm, AreTerms, eval, eval_all}
use Rattle.ua_table.proofs.ApplyLaws.{value-below}
use Rattle.ua_table.proofs.Lists.{AllZip-length}
use Rattle.ua_part.specs.Partitions.{Partition, SameBlock, full_on, identity_on}
use Rattle.ua_part.proofs.PartitionLaws.{same_itself, full_at, full-IsPartition, identity-IsPartition, identity-same}
use Rattle.ua_prod.specs.Congruences.{IsCongruence}

-- ---- lists that are related place by place

at_place : (p : Partition) (xs ys : List ℕ) (j : ℕ) → j < length xs → AllZip (SameBlock p) xs ys → SameBlock p (slice_index xs j) (slice_index ys j)
at_place p [] ys j w h = absurd (omega (arith, w))
at_place p (x ∷ xs) [] j w h = absurd h
at_place p (x ∷ xs) (y ∷ ys) zero w h = h.0
at_place p (x ∷ xs) (y ∷ ys) (suc j) w h = at_place p xs ys j (omega (arith, w)) h.1

pub zip_left : (p : Partition) (n : ℕ) → length p ≡ n → (xs ys : List ℕ) → AllZip (SameBlock p) xs ys → AllByRecursion (λ e. e < n) xs
zip_left p n size [] ys h = tt
zip_left p n size (x ∷ xs) [] h = absurd h
zip_left p n size (x ∷ xs) (y ∷ ys) h = (let l = h.0.left in omega (arith, l, size), zip_left p n size xs ys h.1)

pub zip_right : (p : Partition) (n : ℕ) → length p ≡ n → (xs ys : List ℕ) → AllZip (SameBlock p) xs ys → AllByRecursion (λ e. e < n) ys
zip_right p n size [] [] h = tt
zip_right p n size [] (y ∷ ys) h = absurd h
zip_right p n size (x ∷ xs) [] h = absurd h
zip_right p n size (x ∷ xs) (y ∷ ys) h = (let r = h.0.right in omega (arith, r, size), zip_right p n size xs ys h.1)

equal_lists : (n : ℕ) (xs ys : List ℕ) → AllZip (SameBlock (identity_on n)) xs ys → xs ≡ ys
equal_lists n [] [] h = refl
equal_lists n [] (y ∷ ys) h = absurd h
equal_lists n (x ∷ xs) [] h = absurd h
equal_lists n (x ∷ xs) (y ∷ ys) h = λ i. identity-same n x y h.0 i ∷ equal_lists n xs ys h.1 i

-- ---- the values of a term at elements that are related place by place are related

length-eval_all : (a : FiniteAlgebra) (xs : List ℕ) (ts : Trees) → length (eval_all a xs ts) ≡ count_of ts
length-eval_all a xs none = refl
length-eval_all a xs (more t ts) = ap suc (length-eval_all a xs ts)

module _ (a : FiniteAlgebra) (p : Partition) (cp : IsCongruence a p) (xs ys : List ℕ) (h : AllZip (SameBlock p) xs ys) where
  mutual
    pub eval_related : (t : Tree) → IsTerm (arities_of a) (length xs) t → SameBlock p (eval a xs t) (eval a ys t)
    eval_related (Generator j) is = at_place p xs ys j is h
    eval_related (Application f ts) is = cp.compatible f (eval_all a xs ts) (eval_all a ys ts) is.0 (length-eval_all a xs ts ∙ is.1) (evals_related ts is.2)

    evals_related : (ts : Trees) → AreTerms (arities_of a) (length xs) ts → AllZip (SameBlock p) (eval_all a xs ts) (eval_all a ys ts)
    evals_related none is = tt
    evals_related (more t ts) is = (eval_related t is.0, evals_related ts is.1)

-- ---- the least congruence and the greatest

pub identity-IsCongruence : (a : FiniteAlgebra) → IsAlgebra a → IsCongruence a (identity_on a.size)
identity-IsCongruence a alg =
    let n = length-range_with_len 0 a.size in
    record {
      partition = identity-IsPartition a.size;
      size = n;
      compatible = λ f xs ys w count h.
          let v = value-below a f xs alg w count (zip_left (identity_on a.size) a.size n xs ys h) in
          subst (λ (zs : List ℕ). SameBlock (identity_on a.size) (value_at a f xs) (value_at a f zs)) (equal_lists a.size xs ys h)
          (same_itself (identity_on a.size) (value_at a f xs) (omega (arith, v, n)));
    }

pub full-IsCongruence : (a : FiniteAlgebra) → IsAlgebra a → IsCongruence a (full_on a.size)
full-IsCongruence a alg =
    let n : length (full_on a.size) ≡ a.size = length-replicate a.size 0 in
    record {
      partition = full-IsPartition a.size;
      size = n;
      compatible = λ f xs ys w count h.
          let one = value-below a f xs alg w count (zip_left (full_on a.size) a.size n xs ys h) in
          let two = value-below a f ys alg w (sym (AllZip-length (SameBlock (full_on a.size)) xs ys h) ∙ count) (zip_right (full_on a.size) a.size n xs ys h) in
          record { left = omega (arith, one, n); right = omega (arith, two, n); same = full_at a.size (value_at a f xs) ∙ sym (full_at a.size (value_at a f ys)) };
    }
