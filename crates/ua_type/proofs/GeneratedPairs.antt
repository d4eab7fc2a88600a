-- What pairs generate: themselves, the constants, and what the pairs that they generate generate.
use Rattle.std.proofs.Common.{◌≡◌, ℕ, List, [], ◌∷◌, length, replicate, refl, sym, ap, ◌∙◌, subst, arith, Some, length-append}
use Rattle.std.specs.Prelude.{Contains, slice_index, slice_get}
use Rattle.std.specs.List.{AllByRecursion, AllZip, range_with_len}
use Rattle.std.proofs.lemmas.List.{length-map, get_or_default}
use Rattle.std.proofs.lemmas.List.Elements.{All-from_recursion, Contains-append_left, Contains-append_right}
use Rattle.ua_table.specs.Algebras.{Vector, FiniteAlgebra, Product, arities_of, arities, column}
use Rattle.ua_table.specs.Terms.{Tree, Generator, Application, Trees, none, more, IsTerm, AreTerms, term_value, term_values, eval}
use Rattle.ua_table.specs.Generated.{Sg}
use Rattle.ua_table.proofs.Lists.{Contains-head, all_append, all_from_contains, all_map, all_weaker}
use Rattle.ua_table.proofs.Choices.{range_low}
use Rattle.ua_table.proofs.GeneratedLaws.{generator_in, result_in, length-term_values}
use Rattle.ua_table.proofs.TermLaws.{value_is_eval}
use Rattle.ua_part.specs.Partitions.{Partition, SameBlock}
use Rattle.ua_part.proofs.PartitionLaws.{same_itself}
use Rattle.ua_prod.specs.Congruences.{IsCongruence}
use Rattle.ua_prod.proofs.CongruenceLaws.{eval_related}
use Rattle.ua_type.specs.Subtraces.{constants, pair_generators, Generates}
use Rattle.ua_type.specs.Trials.{HasMorePairs}

-- ---- generated vectors

pub member_in : (p : Product) (gens : List Vector) (v : Vector) → Contains gens v → Sg p gens v
member_in p gens v c = subst (Sg p gens) (get_or_default gens c.0 [] v c.1 ∙ c.2) (generator_in p gens c.0 c.1)

-- what generated vectors generate is generated
module _ (p : Product) (gens others : List Vector) (holds : AllByRecursion (Sg p gens) others) where
  mutual
    held : (t : Tree) → IsTerm (arities p) (length others) t → Sg p gens (term_value p others t)
    held (Generator i) h = All-from_recursion (Sg p gens) others holds i [] h
    held (Application f ts) h = result_in p gens f (term_values p others ts) h.0 (length-term_values p others ts ∙ h.1) (all_held ts h.2)

    all_held : (ts : Trees) → AreTerms (arities p) (length others) ts → AllByRecursion (Sg p gens) (term_values p others ts)
    all_held none h = tt
    all_held (more t ts) h = (held t h.0, all_held ts h.1)

  pub generated_through : (v : Vector) → Sg p others v → Sg p gens v
  generated_through v s = subst (Sg p gens) s.value (held s.term s.is_term)

-- ---- pairs

module _ (b : FiniteAlgebra) (x y : ℕ) where
  pub generates_itself : Generates b x y x y
  generates_itself = member_in (replicate 2 b) (pair_generators b x y) (x ∷ y ∷ []) (Contains-append_right (constants 2 b) ((x ∷ y ∷ []) ∷ []) (x ∷ y ∷ []) (Contains-head (x ∷ y ∷ []) []))

  generates_constants : AllByRecursion (Sg (replicate 2 b) (pair_generators b x y)) (constants 2 b)
  generates_constants = all_from_contains (Sg (replicate 2 b) (pair_generators b x y)) (constants 2 b)
      (λ v c. member_in (replicate 2 b) (pair_generators b x y) v (Contains-append_left (constants 2 b) ((x ∷ y ∷ []) ∷ []) v c))

  generates_all : (c d : ℕ) → Generates b x y c d → (v : Vector) → Sg (replicate 2 b) (pair_generators b c d) v → Sg (replicate 2 b) (pair_generators b x y) v
  generates_all c d g v h =
      generated_through (replicate 2 b) (pair_generators b x y) (pair_generators b c d)
      (all_append (Sg (replicate 2 b) (pair_generators b x y)) (constants 2 b) ((c ∷ d ∷ []) ∷ []) generates_constants (g, tt))
      v h

  pub generates_through : (c d e f : ℕ) → Generates b x y c d → Generates b c d e f → Generates b x y e f
  generates_through c d e f g h = generates_all c d g (e ∷ f ∷ []) h

-- what a generated pair generates is no more
pub no_more_pairs : (b : FiniteAlgebra) (budget x y c d : ℕ) → Generates b x y c d → HasMorePairs b budget c d → HasMorePairs b budget x y
no_more_pairs b budget x y c d g h = record {
  members = h.members;
  count = h.count;
  increasing = h.increasing;
  generated = all_weaker (Sg (replicate 2 b) (pair_generators b c d)) (Sg (replicate 2 b) (pair_generators b x y)) (λ v s. generates_all b x y c d g v s) h.members h.generated;
}

-- as many generate each
pub same_count : (b : FiniteAlgebra) (x y c d : ℕ) → length (pair_generators b x y) ≡ length (pair_generators b c d)
same_count b x y c d = length-append (constants 2 b) ((x ∷ y ∷ []) ∷ []) ∙ sym (length-append (constants 2 b) ((c ∷ d ∷ []) ∷ []))

-- ---- what related elements generate is related

columns_related : (p : Partition) (vs : List Vector) → AllByRecursion (λ (v : Vector). SameBlock p (slice_index v 0) (slice_index v 1)) vs → AllZip (SameBlock p) (column vs 0) (column vs 1)
columns_related p [] h = tt
columns_related p (v ∷ vs) h = (h.0, columns_related p vs h.1)

module _ (b : FiniteAlgebra) (theta : Partition) (cb : IsCongruence b theta) (x y : ℕ) (s : SameBlock theta x y) where
  generators_related : AllByRecursion (λ (v : Vector). SameBlock theta (slice_index v 0) (slice_index v 1)) (pair_generators b x y)
  generators_related =
      all_append (λ (v : Vector). SameBlock theta (slice_index v 0) (slice_index v 1)) (constants 2 b) ((x ∷ y ∷ []) ∷ [])
      (all_map (λ (v : Vector). SameBlock theta (slice_index v 0) (slice_index v 1)) (λ (c : ℕ). replicate 2 c) (range_with_len 0 b.size)
      (all_from_contains (λ (c : ℕ). SameBlock theta c c) (range_with_len 0 b.size)
      (λ c in_it. let r = range_low 0 b.size c in_it in let n = cb.size in same_itself theta c (omega (arith, r.1, n)))))
      (s, tt)

  pub generates_related : (c d : ℕ) → Generates b x y c d → SameBlock theta c d
  generates_related c d g =
      let gens = pair_generators b x y in
      let entry : (i : ℕ) → slice_get (replicate 2 b) i ≡ Some b → slice_index (c ∷ d ∷ []) i ≡ eval b (column gens i) g.term =
      (λ i at. ap (λ (w : Vector). slice_index w i) (sym g.value) ∙ value_is_eval (replicate 2 b) gens i b at g.term) in
      let is : IsTerm (arities_of b) (length (column gens 0)) g.term = subst (λ n. IsTerm (arities_of b) n g.term) (sym (length-map gens (λ (v : Vector). slice_index v 0))) g.is_term in
      let r = eval_related b theta cb (column gens 0) (column gens 1) (columns_related theta gens generators_related) g.term is in
      subst (λ z. SameBlock theta z d) (sym (entry 0 refl)) (subst (SameBlock theta (eval b (column gens 0) g.term)) (sym (entry 1 refl)) r)
