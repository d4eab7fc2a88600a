-- What an answer says of polynomials.
use Rattle.std.proofs.Common.{◌≡◌, ℕ, ◌+◌, ◌-◌, ◌<◌, Bool, true, false, List, length, sym, ap, ◌∙◌, subst, arith, Some, None, Result, Ok, Err}
use Rattle.std.specs.Prelude.{nat_le, slice_get, if◌then◌else◌}
use Rattle.std.proofs.lemmas.Option.{slice_get_within, get_or_from_slice_get}
use Rattle.ua_table.specs.Algebras.{Vector, FiniteAlgebra, Product, arities_of, arities}
use Rattle.ua_table.specs.Terms.{Tree, Generator, IsTerm, term_value}
use Rattle.ua_table.specs.Listings.{Row}
use Rattle.ua_table.proofs.Lists.{mapped_from}
use Rattle.ua_term.specs.Trees.{node_count}
use Rattle.ua_term.specs.Steps.{StepList, unfolded, step_term, step_values, within}
use Rattle.ua_term.proofs.StepLaws.{step_is_term, length_values}
use Rattle.ua_close.specs.declared.close.CloseError.{CloseError}
use Rattle.ua_close.specs.declared.memberships.Answer.{Answer}
use Rattle.ua_close.specs.declared.memberships.Answer.TheVariants.{Yes, No, Exceeds}
use Rattle.ua_close.specs.Memberships.{AreStepsTo}
use Rattle.ua_close.specs.Permitted.{MayMember}
use Rattle.ua_clone.specs.declared.kinds.CloneKind.{CloneKind}
use Rattle.ua_clone.specs.declared.polynomials.Poly.{Poly}
use Rattle.ua_clone.specs.Points.{Point, AreAllPoints}
use Rattle.ua_clone.specs.Polynomials.{named_elements, IsPolynomial, AgreesWith, HasPolynomial, polynomial_of}
use Rattle.ua_clone.specs.Frames.{point_power, point_generators, wanted_values}
use Rattle.ua_clone.specs.Permitted.{WriteAgreeing, AgreesIfWritten, TellsPolynomial}
use Rattle.ua_clone.proofs.PolynomialLaws.{term_wider, few_elements, generator_count, same_arities, written_from, member_from_polynomial}

-- what a tree with few nodes is cut to is the tree
within_is : (limit : ℕ) (t q : Tree) → Some q ≡ within limit t → q ≡ t
within_is limit t q e = at (nat_le (node_count t) limit) e
  where
    at : (b : Bool) → Some q ≡ (if b then Some t else None) → q ≡ t
    at true e = cc
    at false e = cc

module _ (a : FiniteAlgebra) (k : ℕ) (kind : CloneKind) (ps : List Point) where
  abbrev power : Product
  power = point_power a ps

  abbrev gens : List Vector
  gens = point_generators a k kind ps

  abbrev wanted : Vector
  wanted = wanted_values ps

  -- steps to the vector of the values write a polynomial that agrees
  pub steps_write : (s : StepList) → 0 < length ps → AreAllPoints a.size k ps → AreStepsTo power gens wanted s → WriteAgreeing a k kind ps s
  steps_write s some points h =
      let i = length s.items - 1 in
      let m = mapped_from (term_value power gens) (unfolded (arities power) s.items) i wanted h.value in
      let t = m.0 in
      let last : slice_get (unfolded s.arities s.items) i ≡ Some t = ap (λ (ks : List ℕ). slice_get (unfolded ks s.items) i) h.arities_are ∙ m.1 in
      let low : i < length s.items = (let within = slice_get_within (step_values power gens s.items) i wanted h.value in let long = length_values power gens s.items in omega (arith, within, long)) in
      let is_term : IsTerm s.arities s.gens t = subst (IsTerm s.arities s.gens) (get_or_from_slice_get (unfolded s.arities s.items) i t (Generator 0) last) (step_is_term s.arities s.gens s.items i h.steps low) in
      let w = written_from a k kind ps some points t (subst (λ (X : Type 0). X) (λ j. IsTerm (h.arities_are j) (h.generators j) t) is_term, m.2) in
      record {
        operations = h.arities_are ∙ same_arities a k kind ps some points;
        generators = h.generators ∙ generator_count a k kind ps;
        polynomial = t;
        last = last;
        is_polynomial = w.0;
        agrees = w.1;
      }

  -- a closed listing without it says that no polynomial does
  pub none_agrees : (b w : ℕ) (rows : List Row) → 0 < length ps → AreAllPoints a.size k ps → MayMember power gens wanted b w (Ok (No rows)) → ¬ HasPolynomial a k kind ps
  none_agrees b w rows some points may has = may.1.1 ((may.1.0.exact wanted).1 (member_from_polynomial a k kind ps some points has))

  -- so an answer about the vector says the same of polynomials
  pub tells : 0 < length ps → AreAllPoints a.size k ps → (b w : ℕ) (answer : Result Answer CloseError) → MayMember power gens wanted b w answer → TellsPolynomial a k kind ps answer
  tells some points b w (Ok (Yes steps)) may = steps_write steps some points may.1
  tells some points b w (Ok (No rows)) may = none_agrees b w rows some points may
  tells some points b w (Ok (Exceeds rows)) may = tt
  tells some points b w (Err error) may = tt

  -- what is made of the last step is what the steps write
  pub made_agrees : (s : StepList) (limit : ℕ) (p : Poly) → WriteAgreeing a k kind ps s → AgreesIfWritten a k kind ps s limit p
  made_agrees s limit p h e low =
      let same : polynomial_of k p ≡ h.polynomial =
      within_is limit (step_term s.arities s.items (length s.items - 1)) (polynomial_of k p) e
      ∙ get_or_from_slice_get (unfolded s.arities s.items) (length s.items - 1) h.polynomial (Generator 0) h.last in
      let is : IsPolynomial a k kind (polynomial_of k p) = subst (IsPolynomial a k kind) (sym same) h.is_polynomial in
      let few = few_elements kind a.size in (
        record { variables = low; polynomial = term_wider (arities_of a) (k + named_elements kind a.size) (k + a.size) (polynomial_of k p) (omega (arith, few)) is },
        (is, subst (AgreesWith a ps) (sym same) h.agrees),
      )
