-- A certificate of a condition without a flaw says what it says.
use Rattle.std.proofs.Common.{◌≡◌, ◌↔◌, ℕ, ◌≤◌, true, false, ◌||◌, not, None, List, [], ◌∷◌, length, replicate, refl, sym, ap, ◌∙◌, subst, arith}
use Rattle.std.specs.Prelude.{nat_lt, nat_le, ◌==◌}
use Rattle.std.specs.List.{AllByRecursion, range_with_len}
use Rattle.std.proofs.lemmas.Bool.Decides.{nat_tests}
use Rattle.std.proofs.lemmas.List.{length-replicate}
use Rattle.std.proofs.lemmas.List.FromFn.{length-map-range_with_len}
use Rattle.std.proofs.lemmas.Bool.{or_parts}
use Rattle.ua_table.specs.declared.limits.TheConstants.{WIDTH}
use Rattle.ua_table.specs.Algebras.{Vector, FiniteAlgebra, arities_of, power}
use Rattle.ua_table.specs.declared.origins.Origin.{Origin}
use Rattle.ua_table.specs.Terms.{IsTerm}
use Rattle.ua_table.specs.Generated.{Sg}
use Rattle.ua_table.specs.Refusals.{refusal_if, first_refusal}
use Rattle.ua_table.proofs.Lists.{all_map, all_from_contains}
use Rattle.ua_table.proofs.RefusalLaws.{passed}
use Rattle.ua_term.specs.Steps.{written_term}
use Rattle.ua_identity.specs.declared.limits.TheConstants.{PLACES}
use Rattle.ua_identity.specs.Identities.{TermIdentity}
use Rattle.ua_identity.specs.Conditions.{TermCondition, IsMet, near_unanimous}
use Rattle.ua_identity.specs.Patterns.{all_fillings, patterns_of, condition_power, argument_vectors, value_vector}
use Rattle.ua_cert.specs.declared.certs.CertStep.{CertStep}
use Rattle.ua_cert.specs.declared.certs.CondName.{CondName}
use Rattle.ua_cert.specs.declared.certs.CondName.TheVariants.{Maltsev, Majority, Minority, Pixley, Nu}
use Rattle.ua_flaws.specs.declared.flaws.ListName.TheVariants.{Rows}
use Rattle.ua_flaws.specs.declared.flaws.Flaw.TheVariants as flaw
use Rattle.ua_flaws.specs.Steps.{origins_of, last_term}
use Rattle.ua_flaws.specs.Flaws.{vectors_flaw, steps_flaw, outside_lines}
use Rattle.ua_flaws.specs.Laws.{StepsAreSteps, LastIsTerm, LackedIsOutside}
use Rattle.ua_check.specs.Conditions.{condition_of, has_places, is_no_condition, WritesTerm, HasNoTerm, identities_flaw, condition_lines, condition_flaw, width_of, no_condition_flaw}
use Rattle.ua_flaws.proofs.FirstLaws.{both, not_false, some_length, refusal_none, none_of, behind_none, alone}
use Rattle.ua_check.proofs.SatisfyLaws.{satisfied_from}

three : (k : ℕ) → (k == 3) ≡ true → 3 ≡ k
three k e = grind (arith, nat_tests)

pub arity_is : (name : CondName) (k : ℕ) → has_places name k ≡ true → (condition_of name k).arity ≡ k
arity_is Maltsev k e = three k e
arity_is Majority k e = three k e
arity_is Minority k e = three k e
arity_is Pixley k e = three k e
arity_is Nu k e = refl

-- the identities of each are over x and y
pub over_x_y : (name : CondName) (k : ℕ) → AllByRecursion (λ (i : TermIdentity). i.pattern.variables ≡ 2) (condition_of name k).identities
over_x_y Maltsev k = (refl, (refl, tt))
over_x_y Majority k = (refl, (refl, (refl, tt)))
over_x_y Minority k = (refl, (refl, (refl, tt)))
over_x_y Pixley k = (refl, (refl, (refl, tt)))
over_x_y Nu k = all_map (λ (i : TermIdentity). i.pattern.variables ≡ 2) (near_unanimous k) (range_with_len 0 k) (all_from_contains (λ i. (near_unanimous k i).pattern.variables ≡ 2) (range_with_len 0 k) (λ i c. refl))

-- there are few of them
pub few_identities : (name : CondName) (k : ℕ) → has_places name k ≡ true → length (condition_of name k).identities ≤ PLACES
few_identities Maltsev k e = omega arith
few_identities Majority k e = omega arith
few_identities Minority k e = omega arith
few_identities Pixley k e = omega arith
few_identities Nu k e = let count = length-map-range_with_len (near_unanimous k) 0 k in let small = most k (both (nat_le 3 k) (nat_le k PLACES) e).1 in omega (arith, count, small)
  where
    most : (j : ℕ) → nat_le j PLACES ≡ true → j ≤ PLACES
    most j t = grind (arith, nat_tests)

-- the number of places fits, where there is no flaw of it
pub places_fit : (a : FiniteAlgebra) (name : CondName) (k : ℕ) → refusal_if (is_no_condition a name k) flaw.Width ≡ None → has_places name k ≡ true
places_fit a name k none =
    not_false (has_places name k) (or_parts (not (has_places name k)) (nat_lt WIDTH (length (condition_power a (condition_of name k)))) (refusal_none (is_no_condition a name k) flaw.Width none)).0

-- what is left where the condition has its terms, and the steps are steps
pub condition_told : (a : FiniteAlgebra) (name : CondName) (k : ℕ) (c : TermCondition) (steps : List CertStep) (os : List Origin)
    → c ≡ condition_of name k → os ≡ origins_of a steps → refusal_if (is_no_condition a name k) flaw.Width ≡ None → (length steps == 0) ≡ false
    → steps_flaw a k None steps ≡ None
    → identities_flaw a c.identities (written_term (arities_of a) os) ≡ condition_flaw a name k steps
condition_told a name k c steps os same read fits some fine =
    let width : refusal_if (is_no_condition a name k || (length steps == 0)) flaw.Width ≡ None = ap (λ b. refusal_if b flaw.Width) (ap (λ b. b || (length steps == 0)) (refusal_none (is_no_condition a name k) flaw.Width fits) ∙ some) in
    let left : identities_flaw a (condition_of name k).identities (last_term a steps)
    ≡ first_refusal (identities_flaw a (condition_of name k).identities (last_term a steps) ∷ []) =
    alone (identities_flaw a (condition_of name k).identities (last_term a steps)) in
    ap (λ (t : TermCondition). identities_flaw a t.identities (written_term (arities_of a) os)) same
    ∙ ap (λ (zs : List Origin). identities_flaw a (condition_of name k).identities (written_term (arities_of a) zs)) read
    ∙ left
    ∙ sym (passed _ (identities_flaw a (condition_of name k).identities (last_term a steps) ∷ []) fine)
    ∙ sym (passed _ (steps_flaw a k None steps ∷ identities_flaw a (condition_of name k).identities (last_term a steps) ∷ []) width)

pub condition_holds : StepsAreSteps → LastIsTerm → (a : FiniteAlgebra) (name : CondName) (k : ℕ) (steps : List CertStep) → condition_flaw a name k steps ≡ None → WritesTerm a name k steps
condition_holds are term a name k steps none =
    let l = none_of (condition_lines a name k steps) none in
    let shape = or_parts (is_no_condition a name k) (length steps == 0) (refusal_none (is_no_condition a name k || (length steps == 0)) flaw.Width l.0) in
    let places = places_fit a name k (ap (λ b. refusal_if b flaw.Width) shape.0) in
    record {
      steps_are = are a k None steps l.1.0;
      is_term = subst (λ n. IsTerm (arities_of a) n (last_term a steps)) (sym (arity_is name k places)) (term a k None steps (some_length (length steps) shape.1) l.1.0);
      meets = satisfied_from a (last_term a steps) 0 (condition_of name k).identities l.1.1.0;
    }

-- the power is that of as many coordinates as its vectors have
pub power_is : (a : FiniteAlgebra) (name : CondName) (k : ℕ) → power a (width_of a name k) ≡ condition_power a (condition_of name k)
power_is a name k = ap (λ n. replicate n a) (length-replicate (length (all_fillings a.size (patterns_of (condition_of name k)))) a)

pub no_condition_holds : LackedIsOutside → (a : FiniteAlgebra) (name : CondName) (k : ℕ) (rows : List Vector)
    → (Sg (condition_power a (condition_of name k)) (argument_vectors a (condition_of name k)) (value_vector a (condition_of name k)) ↔ IsMet a
    (condition_of name k))
    → no_condition_flaw a name k rows ≡ None → HasNoTerm a name k
no_condition_holds outside a name k rows law none met =
    let c = condition_of name k in
    outside a (width_of a name k) (argument_vectors a c) rows (value_vector a c)
    (behind_none (refusal_if (is_no_condition a name k) flaw.Width ∷ vectors_flaw a.size (width_of a name k) Rows rows ∷ []) (outside_lines a (width_of a name k) (argument_vectors a c) rows (value_vector a c)) none)
    (subst (λ p. Sg p (argument_vectors a c) (value_vector a c)) (sym (power_is a name k)) (law.1 met))
