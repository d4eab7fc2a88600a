-- What an answer says of terms.
use Rattle.std.proofs.Common.{◌≡◌, ℕ, ◌-◌, ◌<◌, List, length, ap, ◌∙◌, subst, arith, Some, Result, Ok, Err}
use Rattle.std.specs.Prelude.{slice_get, ◌↔◌}
use Rattle.std.proofs.lemmas.Option.{slice_get_within, get_or_from_slice_get}
use Rattle.ua_table.specs.Algebras.{Vector, FiniteAlgebra, Product, arities_of, arities}
use Rattle.ua_table.specs.Terms.{Tree, Generator, IsTerm, term_value}
use Rattle.ua_table.specs.Generated.{Sg}
use Rattle.ua_table.specs.Listings.{Row}
use Rattle.ua_table.proofs.Lists.{mapped_from}
use Rattle.ua_term.specs.Steps.{StepList, unfolded, step_values}
use Rattle.ua_term.proofs.StepLaws.{step_is_term, length_values}
use Rattle.ua_close.specs.declared.close.CloseError.{CloseError}
use Rattle.ua_close.specs.declared.memberships.Answer.{Answer}
use Rattle.ua_close.specs.declared.memberships.Answer.TheVariants.{Yes, No, Exceeds}
use Rattle.ua_close.specs.Memberships.{AreStepsTo}
use Rattle.ua_close.specs.Permitted.{MayMember}
use Rattle.ua_identity.specs.Conditions.{TermCondition, Meets, IsMet}
use Rattle.ua_identity.specs.Patterns.{condition_power, argument_vectors, value_vector}
use Rattle.ua_cond.specs.Decisions.{WriteMeeting, Decides}

module _ (a : FiniteAlgebra) (c : TermCondition) where
  abbrev power : Product
  power = condition_power a c

  abbrev arguments : List Vector
  arguments = argument_vectors a c

  abbrev value : Vector
  value = value_vector a c

  -- steps to the vector of the values write a term that meets the condition
  pub steps_write : (s : StepList)
      → ((t : Tree)
      → (IsTerm (arities power) (length arguments) t × (term_value power arguments t ≡ value)) ↔
      (IsTerm (arities_of a) c.arity t × Meets a t c))
      → AreStepsTo power arguments value s → WriteMeeting a c s
  steps_write s written h =
      let i = length s.items - 1 in
      let m = mapped_from (term_value power arguments) (unfolded (arities power) s.items) i value h.value in
      let t = m.0 in
      let last : slice_get (unfolded s.arities s.items) i ≡ Some t = ap (λ (ks : List ℕ). slice_get (unfolded ks s.items) i) h.arities_are ∙ m.1 in
      let low : i < length s.items = (let within = slice_get_within (step_values power arguments s.items) i value h.value in let long = length_values power arguments s.items in omega (arith, within, long)) in
      let is_term : IsTerm s.arities s.gens t = subst (IsTerm s.arities s.gens) (get_or_from_slice_get (unfolded s.arities s.items) i t (Generator 0) last) (step_is_term s.arities s.gens s.items i h.steps low) in
      let w = (written t).0 (subst (λ (X : Type 0). X) (λ k. IsTerm (h.arities_are k) (h.generators k) t) is_term, m.2) in
      record { term = t; last = last; is_term = w.0; meets = w.1 }

  -- a closed listing without it says that no term does
  pub none_meets : (b w : ℕ) (rows : List Row) → (Sg power arguments value ↔ IsMet a c) → MayMember power arguments value b w (Ok (No rows)) → ¬ IsMet a c
  none_meets b w rows member may met = may.1.1 ((may.1.0.exact value).1 (member.1 met))

  -- so an answer about the vector says the same of terms
  pub decides : ((t : Tree) → (IsTerm (arities power) (length arguments) t × (term_value power arguments t ≡ value)) ↔ (IsTerm (arities_of a) c.arity t × Meets a t c)) → (Sg power arguments value ↔ IsMet a c)
      → (b w : ℕ) (answer : Result Answer CloseError) → MayMember power arguments value b w answer → Decides a c answer
  decides written member b w (Ok (Yes steps)) may = steps_write steps written may.1
  decides written member b w (Ok (No rows)) may = none_meets b w rows member may
  decides written member b w (Ok (Exceeds rows)) may = tt
  decides written member b w (Err error) may = tt
