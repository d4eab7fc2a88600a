-- Polynomials by their vectors: in the power with a coordinate for each point, the value of a term at the vectors of variables and elements has the polynomial's values.
use Rattle.std.proofs.Common.{◌≡◌, ℕ, zero, suc, ◌+◌, ◌-◌, ◌<◌, ◌≤◌, List, [], ◌∷◌, ◌++◌, length, map, get_or, replicate, refl, sym, ap, ◌∙◌, subst, arith, ⊎_elim}
use Rattle.std.specs.Prelude.{slice_index}
use Rattle.std.specs.List.{AllByRecursion, range_with_len}
use Rattle.std.proofs.lemmas.Bool.{cases_lt}
use Rattle.std.proofs.lemmas.List.{ext_get_or, get_or-map, get_or_append_left, get_or-append_right, get_or-replicate, length-append, length-map, length-replicate}
use Rattle.std.proofs.lemmas.List.Elements.{All-from_recursion}
use Rattle.std.proofs.lemmas.List.FromFn.{get_or-map-range_with_len, get_or-range_with_len, length-map-range_with_len}
use Rattle.ua_term.proofs.AssignmentLaws.{maps_agree}
use Rattle.ua_table.specs.Algebras.{Vector, FiniteAlgebra, IsVector, AreVectorsOf, arities_of, arities, column, value_at}
use Rattle.ua_table.specs.Terms.{Tree, Generator, Application, Trees, none, more, IsTerm, AreTerms, term_value, term_values, eval, eval_all}
use Rattle.ua_table.proofs.ApplyLaws.{length-apply}
use Rattle.ua_table.proofs.Choices.{range_low}
use Rattle.ua_table.proofs.FrameLaws.{arities_of_power, in_power}
use Rattle.ua_table.proofs.Lists.{all_append, all_at, all_from_contains, all_map, all_weaker, slice_get-replicate}
use Rattle.ua_table.proofs.TermLaws.{value_is_eval}
use Rattle.ua_identity.proofs.PatternLaws.{agree_maps}
use Rattle.ua_clone.specs.declared.kinds.CloneKind.{CloneKind}
use Rattle.ua_clone.specs.declared.kinds.CloneKind.TheVariants.{TermOps, Polynomials}
use Rattle.ua_clone.specs.Points.{Point, IsPoint, AreAllPoints}
use Rattle.ua_clone.specs.Polynomials.{named_elements, IsPolynomial, polynomial_value, AgreesWith, IsAgreeing, HasPolynomial}
use Rattle.ua_clone.specs.Frames.{point_power, variable_vector, element_vector, point_generators, wanted_values, HasValuesAt, GivesWanted, GenerateWanted}

-- ---- the value of a term depends on its generators alone

module _ (a : FiniteAlgebra) (ks : List ℕ) (g : ℕ) (xs ys : List ℕ) (same : (i : ℕ) → i < g → slice_index xs i ≡ slice_index ys i) where
  mutual
    evals_same : (t : Tree) → IsTerm ks g t → eval a xs t ≡ eval a ys t
    evals_same (Generator i) h = same i h
    evals_same (Application f ts) h = ap (value_at a f) (all_same ts h.2)

    all_same : (ts : Trees) → AreTerms ks g ts → eval_all a xs ts ≡ eval_all a ys ts
    all_same none h = refl
    all_same (more t ts) h = (λ i. evals_same t h.0 i ∷ all_same ts h.1 i)

-- a polynomial without elements has a term's value
pub term_is_eval : (a : FiniteAlgebra) (xs : List ℕ) (t : Tree) → IsTerm (arities_of a) (length xs) t → polynomial_value a xs t ≡ eval a xs t
term_is_eval a xs t h = evals_same a (arities_of a) (length xs) (xs ++ range_with_len 0 a.size) xs (λ i low. get_or_append_left xs (range_with_len 0 a.size) 0 i low) t h

-- a term is one in more generators too
mutual
  pub term_wider : (ks : List ℕ) (g h : ℕ) (t : Tree) → g ≤ h → IsTerm ks g t → IsTerm ks h t
  term_wider ks g h (Generator i) low is = omega (arith, low, is)
  term_wider ks g h (Application f ts) low is = (is.0, is.1, terms_wider ks g h ts low is.2)

  terms_wider : (ks : List ℕ) (g h : ℕ) (ts : Trees) → g ≤ h → AreTerms ks g ts → AreTerms ks h ts
  terms_wider ks g h none low is = tt
  terms_wider ks g h (more t ts) low is = (term_wider ks g h t low is.0, terms_wider ks g h ts low is.1)

-- no more elements are named than there are
pub few_elements : (kind : CloneKind) (n : ℕ) → named_elements kind n ≤ n
few_elements TermOps n = omega arith
few_elements Polynomials n = omega arith

-- ---- the generators at one point

module _ (ps : List Point) (k m : ℕ) where
  abbrev vectors : List Vector
  vectors = map (variable_vector ps) (range_with_len 0 k) ++ map (element_vector ps) (range_with_len 0 m)

  count : length (map (variable_vector ps) (range_with_len 0 k)) ≡ k
  count = length-map-range_with_len (variable_vector ps) 0 k

  all_count : length vectors ≡ k + m
  all_count =
      let both = length-append (map (variable_vector ps) (range_with_len 0 k)) (map (element_vector ps) (range_with_len 0 m)) in
      let one = count in
      let other = length-map-range_with_len (element_vector ps) 0 m in
      omega (arith, both, one, other)

  variable_stands : (i : ℕ) → i < k → get_or vectors i [] ≡ variable_vector ps i
  variable_stands i low =
      let long = count in
      get_or_append_left (map (variable_vector ps) (range_with_len 0 k)) (map (element_vector ps) (range_with_len 0 m)) [] i (omega (arith, low, long))
      ∙ get_or-map-range_with_len (variable_vector ps) 0 k i i [] low (omega arith)

  element_stands : (i : ℕ) → k ≤ i → i < k + m → get_or vectors i [] ≡ element_vector ps (i - k)
  element_stands i high low =
      get_or-append_right (map (variable_vector ps) (range_with_len 0 k)) (map (element_vector ps) (range_with_len 0 m)) k i [] count high
      ∙ get_or-map-range_with_len (element_vector ps) 0 m (i - k) (i - k) [] (omega (arith, low, high)) (omega arith)

  -- as long as there are points
  generator_long : (i : ℕ) → i < k + m → length (get_or vectors i []) ≡ length ps
  generator_long i low = ⊎_elim
      (λ below. ap length (variable_stands i below) ∙ length-map ps (λ (p : Point). slice_index p.arguments i))
      (λ above. ap length (element_stands i above low) ∙ length-replicate (length ps) (i - k)) (cases_lt i k)

  -- at a point stand its arguments, and then the elements
  entry_is : (n j i : ℕ) (d : Point) → m ≤ n → j < length ps → length (get_or ps j d).arguments ≡ k → i < k + m → slice_index (column vectors j) i ≡ slice_index ((get_or ps j d).arguments ++ range_with_len 0 n) i
  entry_is n j i d few within long low =
      let all = all_count in
      let args = (get_or ps j d).arguments in
      get_or-map (λ (v : Vector). slice_index v j) vectors i [] 0 (omega (arith, low, all))
      ∙ ⊎_elim
      (λ below.
      ap (λ (v : Vector). slice_index v j) (variable_stands i below)
      ∙ get_or-map (λ (p : Point). slice_index p.arguments i) ps j d 0 within
      ∙ sym (get_or_append_left args (range_with_len 0 n) 0 i (omega (arith, below, long))))
      (λ above.
      ap (λ (v : Vector). slice_index v j) (element_stands i above low)
      ∙ get_or-replicate (length ps) j (i - k) 0 within
      ∙ sym (get_or-append_right args (range_with_len 0 n) k i 0 long above ∙ get_or-range_with_len 0 n (i - k) 0 (omega (arith, above, low, few)) ∙ (let e : 0 + (i - k) ≡ i - k = omega arith in e))) (cases_lt i k)

-- ---- the value of a term at them

module _ (a : FiniteAlgebra) (k : ℕ) (kind : CloneKind) (ps : List Point) where
  abbrev gens : List Vector
  gens = point_generators a k kind ps

  abbrev elements : ℕ
  elements = named_elements kind a.size

  pub generator_count : length gens ≡ k + elements
  generator_count = all_count ps k elements

  value_long : (t : Tree) → IsPolynomial a k kind t → length (term_value (point_power a ps) gens t) ≡ length ps
  value_long (Generator j) h = generator_long ps k elements j h
  value_long (Application f ts) h = length-apply (point_power a ps) f (term_values (point_power a ps) gens ts) ∙ length-replicate (length ps) a

  pub values_at_points : (t : Tree) → AreAllPoints a.size k ps → IsPolynomial a k kind t → HasValuesAt a k kind ps t
  values_at_points t points h =
      let long = value_long t h in
      let none : Point = record { arguments = []; value = 0 } in
      ext_get_or 0 (term_value (point_power a ps) gens t) (map (λ (p : Point). polynomial_value a p.arguments t) ps) (long ∙ sym (length-map ps (λ (p : Point). polynomial_value a p.arguments t))) (λ j l.
      let low : j < length ps = omega (arith, l, long) in
      let point = All-from_recursion (IsPoint a.size k) ps points j none low in
      value_is_eval (point_power a ps) gens j a (slice_get-replicate (length ps) j a low) t
      ∙ evals_same a (arities_of a) (k + elements) (column gens j) ((get_or ps j none).arguments ++ range_with_len 0 a.size)
      (λ i below. entry_is ps k elements a.size j i none (few_elements kind a.size) low point.assignment.count below) t h
      ∙ sym (get_or-map (λ (p : Point). polynomial_value a p.arguments t) ps j none 0 low))

  -- it has the wanted values exactly where the polynomial agrees
  agrees_from : (t : Tree) → map (λ (p : Point). polynomial_value a p.arguments t) ps ≡ wanted_values ps → AgreesWith a ps t
  agrees_from t e = all_from_contains (λ (p : Point). polynomial_value a p.arguments t ≡ p.value) ps (agree_maps (λ (p : Point). polynomial_value a p.arguments t) (λ (p : Point). p.value) ps e)

  agrees_as : (t : Tree) → AgreesWith a ps t → map (λ (p : Point). polynomial_value a p.arguments t) ps ≡ wanted_values ps
  agrees_as t h = maps_agree (λ (p : Point). polynomial_value a p.arguments t) (λ (p : Point). p.value) ps (λ p c. all_at (λ (q : Point). polynomial_value a q.arguments t ≡ q.value) ps p h c)

  -- ---- the generators and the values are vectors of the power

  variable_admitted : (i : ℕ) → i < k → AreAllPoints a.size k ps → IsVector (point_power a ps) (variable_vector ps i)
  variable_admitted i low points =
      in_power a (length ps) (variable_vector ps i) (length-map ps (λ (p : Point). slice_index p.arguments i))
      (all_map (λ x. x < a.size) (λ (p : Point). slice_index p.arguments i) ps
      (all_weaker (IsPoint a.size k) (λ (p : Point). slice_index p.arguments i < a.size)
      (λ p h.
      All-from_recursion (λ x. x < a.size) p.arguments h.assignment.elements i 0 (let long = h.assignment.count in omega (arith, low, long)))
      ps points))

  element_admitted : (c : ℕ) → c < a.size → IsVector (point_power a ps) (element_vector ps c)
  element_admitted c low = in_power a (length ps) (element_vector ps c) (length-replicate (length ps) c) (same (length ps))
    where
      same : (m : ℕ) → AllByRecursion (λ x. x < a.size) (replicate m c)
      same zero = tt
      same (suc m) = (low, same m)

  pub generators_admitted : AreAllPoints a.size k ps → AreVectorsOf (point_power a ps) gens
  generators_admitted points =
      all_append (IsVector (point_power a ps)) (map (variable_vector ps) (range_with_len 0 k)) (map (element_vector ps) (range_with_len 0 elements))
      (all_map (IsVector (point_power a ps)) (variable_vector ps) (range_with_len 0 k) (all_from_contains (λ i. IsVector (point_power a ps) (variable_vector ps i)) (range_with_len 0 k) (λ i c.
      let low = (range_low 0 k i c).1 in variable_admitted i (omega (arith, low)) points)))
      (all_map (IsVector (point_power a ps)) (element_vector ps) (range_with_len 0 elements) (all_from_contains (λ e. IsVector (point_power a ps) (element_vector ps e)) (range_with_len 0 elements) (λ e c.
      let low = (range_low 0 elements e c).1 in let few = few_elements kind a.size in element_admitted e (omega (arith, low, few)))))

  pub wanted_admitted : AreAllPoints a.size k ps → IsVector (point_power a ps) (wanted_values ps)
  wanted_admitted points =
      in_power a (length ps) (wanted_values ps) (length-map ps (λ (p : Point). p.value))
      (all_map (λ x. x < a.size) (λ (p : Point). p.value) ps (all_weaker (IsPoint a.size k) (λ (p : Point). p.value < a.size) (λ p h. h.element) ps points))

  -- ---- the values are generated exactly where some polynomial agrees

  module _ (some : 0 < length ps) (points : AreAllPoints a.size k ps) where
    pub same_arities : arities (point_power a ps) ≡ arities_of a
    same_arities = arities_of_power a (length ps) some

    same_terms : (t : Tree) → IsTerm (arities (point_power a ps)) (length gens) t ≡ IsPolynomial a k kind t
    same_terms t = (λ i. IsTerm (same_arities i) (generator_count i) t)

    pub written_from : (t : Tree) → GivesWanted a k kind ps t → IsAgreeing a k kind ps t
    written_from t h =
        let is : IsPolynomial a k kind t = subst (λ (X : Type 0). X) (same_terms t) h.0 in
        (is, agrees_from t (sym (values_at_points t points is) ∙ h.1))

    pub written_as : (t : Tree) → IsAgreeing a k kind ps t → GivesWanted a k kind ps t
    written_as t h = (subst (λ (X : Type 0). X) (sym (same_terms t)) h.0, values_at_points t points h.0 ∙ agrees_as t h.1)

    pub polynomial_from_member : GenerateWanted a k kind ps → HasPolynomial a k kind ps
    polynomial_from_member s = let w = written_from s.term (s.is_term, s.value) in record { polynomial = s.term; is_polynomial = w.0; agrees = w.1 }

    pub member_from_polynomial : HasPolynomial a k kind ps → GenerateWanted a k kind ps
    member_from_polynomial h = let w = written_as h.polynomial (h.is_polynomial, h.agrees) in record { term = h.polynomial; is_term = w.0; value = w.1 }
