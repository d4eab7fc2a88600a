-- The members of a free algebra.
use Rattle.std.proofs.Common.{◌≡◌, ℕ, ◌^◌, ◌<◌, List, [], ◌∷◌, length, map, sym, ◌∙◌, subst, arith}
use Rattle.std.specs.Prelude.{slice_index}
use Rattle.std.specs.List.{AllByRecursion, range_with_len}
use Rattle.std.proofs.lemmas.List.{length-map}
use Rattle.std.proofs.lemmas.List.Elements.{All-from_recursion}
use Rattle.std.proofs.lemmas.List.FromFn.{length-range_with_len}
use Rattle.std.proofs.Math.Nat.{one-le-pow}
use Rattle.ua_table.specs.Algebras.{Vector, FiniteAlgebra, IsVector, arities_of, arities}
use Rattle.ua_table.specs.Terms.{Tree, IsTerm, eval}
use Rattle.ua_table.specs.Generated.{Sg}
use Rattle.ua_table.proofs.Choices.{range_low}
use Rattle.ua_table.proofs.FrameLaws.{arities_of_power, in_power}
use Rattle.ua_table.proofs.Lists.{all_at, all_map, all_from_contains}
use Rattle.ua_term.specs.Assignments.{assignments, projection, projections, power_of_assignments, term_operation}
use Rattle.ua_term.proofs.AssignmentLaws.{length_assignments, assignment_in, assignment_from, value_is_operation, maps_agree}
use Rattle.ua_free.specs.Identities.{AgreeAt, Holds}
use Rattle.ua_free.specs.TermOperations.{IsTermOperation}

pub power_some : (n k : ℕ) → 0 < n → 0 < n ^ k
power_some n k some = one-le-pow k n some

-- ---- the projections

pub length_projection : (n k i : ℕ) → length (projection n k i) ≡ n ^ k
length_projection n k i = length-map (assignments n k) (λ (xs : List ℕ). slice_index xs i) ∙ length_assignments n k

projection_vector : (a : FiniteAlgebra) (k i : ℕ) → i < k → IsVector (power_of_assignments a k) (projection a.size k i)
projection_vector a k i low =
    in_power a (a.size ^ k) (projection a.size k i) (length_projection a.size k i)
    (all_map (λ x. x < a.size) (λ (xs : List ℕ). slice_index xs i) (assignments a.size k)
    (all_from_contains (λ (xs : List ℕ). slice_index xs i < a.size) (assignments a.size k) (λ xs c.
    let h = assignment_from a.size k xs c in
    All-from_recursion (λ x. x < a.size) xs h.elements i 0 (let count = h.count in omega (arith, low, count)))))

pub projections_admitted : (a : FiniteAlgebra) (k : ℕ) → AllByRecursion (IsVector (power_of_assignments a k)) (projections a.size k)
projections_admitted a k =
    all_map (IsVector (power_of_assignments a k)) (projection a.size k) (range_with_len 0 k)
    (all_from_contains (λ i. IsVector (power_of_assignments a k) (projection a.size k i)) (range_with_len 0 k) (λ i c.
    projection_vector a k i (let r = range_low 0 k i c in let low = r.1 in omega (arith, low))))

pub length_projections : (n k : ℕ) → length (projections n k) ≡ k
length_projections n k = length-map (range_with_len 0 k) (projection n k) ∙ length-range_with_len 0 k

-- ---- the members

module _ (a : FiniteAlgebra) (k : ℕ) (some : 0 < a.size) where
  same_terms : (t : Tree) → IsTerm (arities (power_of_assignments a k)) (length (projections a.size k)) t ≡ IsTerm (arities_of a) k t
  same_terms t = (λ i. IsTerm (arities_of_power a (a.size ^ k) (power_some a.size k some) i) (length_projections a.size k i) t)

  pub operation_from_member : (v : Vector) → Sg (power_of_assignments a k) (projections a.size k) v → IsTermOperation a k v
  operation_from_member v h =
      let is_term : IsTerm (arities_of a) k h.term = subst (λ (X : Type 0). X) (same_terms h.term) h.is_term in
      record { term = h.term; is_term = is_term; values = sym h.value ∙ value_is_operation a k h.term is_term }

  pub member_from_operation : (v : Vector) → IsTermOperation a k v → Sg (power_of_assignments a k) (projections a.size k) v
  member_from_operation v h =
      record { term = h.term; is_term = subst (λ (X : Type 0). X) (sym (same_terms h.term)) h.is_term; value = value_is_operation a k h.term h.is_term ∙ sym h.values }

-- ---- identities by the values of both sides

agree_maps : {X Y : Type 0} (f g : X → Y) (xs : List X) → map f xs ≡ map g xs → AllByRecursion (λ x. f x ≡ g x) xs
agree_maps f g [] e = tt
agree_maps f g (x ∷ xs) e = (cc, agree_maps f g xs cc)

pub holds_from_values : (a : FiniteAlgebra) (k : ℕ) (s t : Tree) → term_operation a k s ≡ term_operation a k t → Holds a k s t
holds_from_values a k s t e xs h = all_at (AgreeAt a s t) (assignments a.size k) xs (agree_maps (λ ys. eval a ys s) (λ ys. eval a ys t) (assignments a.size k) e) (assignment_in a.size k xs h)

pub values_from_holds : (a : FiniteAlgebra) (k : ℕ) (s t : Tree) → Holds a k s t → term_operation a k s ≡ term_operation a k t
values_from_holds a k s t h = maps_agree (λ ys. eval a ys s) (λ ys. eval a ys t) (assignments a.size k) (λ xs c. h xs (assignment_from a.size k xs c))
