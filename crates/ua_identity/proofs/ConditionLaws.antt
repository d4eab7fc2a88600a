-- Terms that meet conditions, by their vectors.
use Rattle.std.proofs.Common.{◌≡◌, ℕ, ◌+◌, ◌^◌, ◌<◌, ◌≤◌, List, [], ◌∷◌, ◌++◌, length, map, take, drop, refl, sym, ap, ◌∙◌, subst, arith}
use Rattle.std.specs.Prelude.{Contains, slice_index, ◌↔◌}
use Rattle.std.specs.List.{AllByRecursion, flat_map, range_with_len}
use Rattle.std.proofs.lemmas.List.{length-map, length-append, map-append, take_at, drop_at, get_or-map}
use Rattle.std.proofs.lemmas.List.Elements.{All-from_recursion}
use Rattle.std.proofs.lemmas.List.FromFn.{length-map-range_with_len}
use Rattle.std.proofs.Math.Nat.{one-le-pow}
use Rattle.ua_table.specs.Algebras.{Vector, FiniteAlgebra, IsVector, AreVectorsOf, arities_of, arities}
use Rattle.ua_table.specs.Terms.{Tree, IsTerm, eval, term_value}
use Rattle.ua_table.specs.Generated.{Sg, IsTermFor}
use Rattle.ua_table.proofs.Choices.{range_low}
use Rattle.ua_table.proofs.FrameLaws.{arities_of_power, in_power}
use Rattle.ua_table.proofs.Lists.{all_map, all_append, all_from_contains, all_weaker}
use Rattle.ua_term.specs.Assignments.{assignments, projection}
use Rattle.ua_term.proofs.AssignmentLaws.{length_assignments, assignment_from}
use Rattle.ua_identity.specs.Identities.{VariablePattern, TermIdentity, filled, Satisfies}
use Rattle.ua_identity.specs.Conditions.{TermCondition, IsPattern, IsIdentity, IsCondition, Meets, IsMet, IsMetBy}
use Rattle.ua_identity.specs.Patterns.{FillPlaces, HasValuesOn, fillings, all_fillings, vector_of, place_vector, pattern_power, generators, patterns_of, condition_power, argument_vectors, value_vector}
use Rattle.ua_identity.proofs.PatternLaws.{AreFilled, value_is_vector, satisfied_from_part, part_from_satisfied}
use Rattle.ua_identity.proofs.FillingLaws.{length_fillings}

-- ---- the fillings of patterns

filled_one : (places n : ℕ) (p : VariablePattern) → length p.places ≡ places → AreFilled places (fillings n p)
filled_one places n p e =
    all_map (λ (xs : List ℕ). length xs ≡ places) (filled p) (assignments n p.variables)
    (all_from_contains (λ (xs : List ℕ). length (filled p xs) ≡ places) (assignments n p.variables)
    (λ xs c. length-map p.places (slice_index xs) ∙ e))

pub filled_all : (places n : ℕ) (ps : List VariablePattern) → FillPlaces places ps → AreFilled places (all_fillings n ps)
filled_all places n [] h = tt
filled_all places n (p ∷ ps) h = all_append (λ (xs : List ℕ). length xs ≡ places) (fillings n p) (all_fillings n ps) (filled_one places n p h.0) (filled_all places n ps h.1)

-- a term's value in the power is its vector
pub value_on_patterns : (a : FiniteAlgebra) (ps : List VariablePattern) (places : ℕ) (t : Tree) → FillPlaces places ps → IsTerm (arities_of a) places t → HasValuesOn a ps places t
value_on_patterns a ps places t fill h = value_is_vector a (all_fillings a.size ps) places t (filled_all places a.size ps fill) h

-- ---- the vectors are vectors of the power

-- what an assignment gives to one of its variables is an element
given : (n k v : ℕ) (xs : List ℕ) → v < k → Contains (assignments n k) xs → slice_index xs v < n
given n k v xs low c = let h = assignment_from n k xs c in All-from_recursion (λ x. x < n) xs h.elements v 0 (let count = h.count in omega (arith, low, count))

abbrev AreBelow : ℕ → List ℕ → Type 0
AreBelow n xs = AllByRecursion (λ x. x < n) xs

projection_below : (n k v : ℕ) → v < k → AreBelow n (projection n k v)
projection_below n k v low = all_map (λ x. x < n) (λ (xs : List ℕ). slice_index xs v) (assignments n k) (all_from_contains (λ (xs : List ℕ). slice_index xs v < n) (assignments n k) (λ xs c. given n k v xs low c))

place_one : (n j : ℕ) (p : VariablePattern) → IsPattern p → j < length p.places → AreBelow n (place_vector (fillings n p) j)
place_one n j p is low =
    all_map (λ x. x < n) (λ (xs : List ℕ). slice_index xs j) (fillings n p)
    (all_map (λ (xs : List ℕ). slice_index xs j < n) (filled p) (assignments n p.variables)
    (all_from_contains (λ (xs : List ℕ). slice_index (filled p xs) j < n) (assignments n p.variables) (λ xs c.
    subst (λ x. x < n) (sym (get_or-map (slice_index xs) p.places j 0 0 low))
    (given n p.variables (slice_index p.places j) xs (All-from_recursion (λ v. v < p.variables) p.places is.named j 0 low) c))))

place_below : (n j : ℕ) (ps : List VariablePattern) → AllByRecursion IsPattern ps → AllByRecursion (λ (p : VariablePattern). j < length p.places) ps → AreBelow n (place_vector (all_fillings n ps) j)
place_below n j [] h low = tt
place_below n j (p ∷ ps) h low =
    subst (AreBelow n) (sym (map-append (λ (xs : List ℕ). slice_index xs j) (fillings n p) (all_fillings n ps)))
    (all_append (λ x. x < n) (place_vector (fillings n p) j) (place_vector (all_fillings n ps) j) (place_one n j p h.0 low.0) (place_below n j ps h.1 low.1))

-- the vectors of the places
pub generators_admitted : (a : FiniteAlgebra) (ps : List VariablePattern) (places : ℕ) → AllByRecursion IsPattern ps → FillPlaces places ps → AreVectorsOf (pattern_power a ps) (generators a ps places)
generators_admitted a ps places h fill =
    all_map (IsVector (pattern_power a ps)) (place_vector (all_fillings a.size ps)) (range_with_len 0 places)
    (all_from_contains (λ j. IsVector (pattern_power a ps) (place_vector (all_fillings a.size ps) j)) (range_with_len 0 places) (λ j c.
    let r = range_low 0 places j c in
    let low = r.1 in
    in_power a (length (all_fillings a.size ps)) (place_vector (all_fillings a.size ps) j) (length-map (all_fillings a.size ps) (λ (xs : List ℕ). slice_index xs j))
    (place_below a.size j ps h (all_weaker (λ (p : VariablePattern). length p.places ≡ places) (λ (p : VariablePattern). j < length p.places) (λ p e. omega (arith, low, e)) ps fill))))

-- ---- the values that identities say

abbrev pub values : ℕ → TermIdentity → Vector
values n i = projection n i.pattern.variables i.value

abbrev pub patterns_in : List TermIdentity → List VariablePattern
patterns_in is = map (λ (i : TermIdentity). i.pattern) is

length_values : (n : ℕ) (i : TermIdentity) → length (values n i) ≡ length (fillings n i.pattern)
length_values n i = length-map (assignments n i.pattern.variables) (λ (xs : List ℕ). slice_index xs i.value) ∙ length_assignments n i.pattern.variables ∙ sym (length_fillings n i.pattern)

long_values : (n : ℕ) (is : List TermIdentity) → length (flat_map (values n) is) ≡ length (all_fillings n (patterns_in is))
long_values n [] = refl
long_values n (i ∷ is) =
    let one = length_values n i in
    let rest = long_values n is in
    length-append (values n i) (flat_map (values n) is) ∙ (λ k. one k + rest k) ∙ sym (length-append (fillings n i.pattern) (all_fillings n (patterns_in is)))

values_below : (n : ℕ) (is : List TermIdentity) → AllByRecursion IsIdentity is → AreBelow n (flat_map (values n) is)
values_below n [] h = tt
values_below n (i ∷ is) h = let low = h.0.value in all_append (λ x. x < n) (values n i) (flat_map (values n) is) (projection_below n i.pattern.variables i.value low) (values_below n is h.1)

pub value_admitted : (a : FiniteAlgebra) (c : TermCondition) → IsCondition c → IsVector (condition_power a c) (value_vector a c)
value_admitted a c h = in_power a (length (all_fillings a.size (patterns_of c))) (value_vector a c) (long_values a.size c.identities) (values_below a.size c.identities h.identities)

-- the patterns of a condition
pub are_patterns : (c : TermCondition) → IsCondition c → AllByRecursion IsPattern (patterns_of c)
are_patterns c h = all_map IsPattern (λ (i : TermIdentity). i.pattern) c.identities (all_weaker IsIdentity (λ (i : TermIdentity). IsPattern i.pattern) (λ i k. k.pattern) c.identities h.identities)

pub fill_places : (c : TermCondition) → IsCondition c → FillPlaces c.arity (patterns_of c)
fill_places c h = all_map (λ (p : VariablePattern). length p.places ≡ c.arity) (λ (i : TermIdentity). i.pattern) c.identities h.filled

pub arguments_admitted : (a : FiniteAlgebra) (c : TermCondition) → IsCondition c → AreVectorsOf (condition_power a c) (argument_vectors a c)
arguments_admitted a c h = generators_admitted a (patterns_of c) c.arity (are_patterns c h) (fill_places c h)

-- ---- a term meets a condition where its vector is what the identities say

module _ (a : FiniteAlgebra) (t : Tree) where
  abbrev at : List ℕ → ℕ
  at xs = eval a xs t

  joined : (i : TermIdentity) (is : List TermIdentity) → map at (all_fillings a.size (patterns_in (i ∷ is))) ≡ map at (fillings a.size i.pattern) ++ map at (all_fillings a.size (patterns_in is))
  joined i is = map-append at (fillings a.size i.pattern) (all_fillings a.size (patterns_in is))

  vector_from : (is : List TermIdentity) → AllByRecursion (Satisfies a t) is → map at (all_fillings a.size (patterns_in is)) ≡ flat_map (values a.size) is
  vector_from [] h = refl
  vector_from (i ∷ is) h =
      let one = part_from_satisfied a i t h.0 in
      let rest = vector_from is h.1 in
      joined i is ∙ (λ k. one k ++ rest k)

  vector_meets : (is : List TermIdentity) → map at (all_fillings a.size (patterns_in is)) ≡ flat_map (values a.size) is → AllByRecursion (Satisfies a t) is
  vector_meets [] e = tt
  vector_meets (i ∷ is) e =
      let ps = map at (fillings a.size i.pattern) in
      let ps' = map at (all_fillings a.size (patterns_in is)) in
      let vs = values a.size i in
      let vs' = flat_map (values a.size) is in
      let whole : ps ++ ps' ≡ vs ++ vs' = sym (joined i is) ∙ e in
      let long : length ps ≡ length vs = length-map (fillings a.size i.pattern) at ∙ sym (length_values a.size i) in
      let one : ps ≡ vs = sym (take_at ps ps' (length ps) refl) ∙ ap (take (length ps)) whole ∙ take_at vs vs' (length ps) (sym long) in
      let rest : ps' ≡ vs' = sym (drop_at ps ps' (length ps) refl) ∙ ap (drop (length ps)) whole ∙ drop_at vs vs' (length ps) (sym long) in
      (satisfied_from_part a i t one, vector_meets is rest)

pub meets_vector : (a : FiniteAlgebra) (c : TermCondition) (t : Tree) → Meets a t c ↔ (vector_of a (patterns_of c) t ≡ value_vector a c)
meets_vector a c t = (vector_from a t c.identities, vector_meets a t c.identities)

-- ---- the value is generated where some term meets the condition

pub length-argument_vectors : (a : FiniteAlgebra) (c : TermCondition) → length (argument_vectors a c) ≡ c.arity
length-argument_vectors a c = length-map-range_with_len (place_vector (all_fillings a.size (patterns_of c))) 0 c.arity

module _ (a : FiniteAlgebra) (c : TermCondition) (some : 0 < a.size) (is : IsCondition c) where
  pub some_width : 0 < length (all_fillings a.size (patterns_of c))
  some_width = go c.identities is.identity
    where
      go : (is : List TermIdentity) → 1 ≤ length is → 0 < length (all_fillings a.size (patterns_in is))
      go [] l = absurd (omega (arith, l))
      go (i ∷ is) l =
          let one = length_fillings a.size i.pattern in
          let low : 0 < a.size ^ i.pattern.variables = one-le-pow i.pattern.variables a.size some in
          let both = length-append (fillings a.size i.pattern) (all_fillings a.size (patterns_in is)) in
          omega (arith, one, low, both)

  pub same_arities : arities (condition_power a c) ≡ arities_of a
  same_arities = arities_of_power a (length (all_fillings a.size (patterns_of c))) some_width

  same_terms : (t : Tree) → IsTerm (arities (condition_power a c)) (length (argument_vectors a c)) t ≡ IsTerm (arities_of a) c.arity t
  same_terms t = (λ k. IsTerm (same_arities k) (length-argument_vectors a c k) t)

  pub term_at : (t : Tree) → IsTerm (arities_of a) c.arity t → term_value (condition_power a c) (argument_vectors a c) t ≡ vector_of a (patterns_of c) t
  term_at t h = value_on_patterns a (patterns_of c) c.arity t (fill_places c is) h

  pub written_from : (t : Tree) → IsTermFor (condition_power a c) (argument_vectors a c) (value_vector a c) t → IsMetBy a c t
  written_from t h =
      let is_term : IsTerm (arities_of a) c.arity t = subst (λ (X : Type 0). X) (same_terms t) h.0 in
      (is_term, (meets_vector a c t).1 (sym (term_at t is_term) ∙ h.1))

  pub written_as : (t : Tree) → IsMetBy a c t → IsTermFor (condition_power a c) (argument_vectors a c) (value_vector a c) t
  written_as t h = (subst (λ (X : Type 0). X) (sym (same_terms t)) h.0, term_at t h.0 ∙ (meets_vector a c t).0 h.1)

  pub met_from_member : Sg (condition_power a c) (argument_vectors a c) (value_vector a c) → IsMet a c
  met_from_member s = let w = written_from s.term (s.is_term, s.value) in record { term = s.term; is_term = w.0; meets = w.1 }

  pub member_from_met : IsMet a c → Sg (condition_power a c) (argument_vectors a c) (value_vector a c)
  member_from_met m = let w = written_as m.term (m.is_term, m.meets) in record { term = m.term; is_term = w.0; value = w.1 }
