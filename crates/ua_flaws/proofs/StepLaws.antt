-- A step that passes the test is an origin, and steps that pass are steps.
use Rattle.std.proofs.Common.{◌≡◌, ℕ, suc, ◌+◌, ◌-◌, ◌<◌, true, false, ◌&&◌, cond, Some, None, List, [], ◌∷◌, ◌++◌, length, take, drop, replicate, refl, sym, ap, ◌∙◌, subst, arith}
use Rattle.std.specs.Prelude.{slice_index, nat_lt, ◌==◌}
use Rattle.std.specs.List.{AllByRecursion, list_all}
use Rattle.std.proofs.lemmas.Bool.Decides.{nat_tests}
use Rattle.std.proofs.lemmas.List.{length-map}
use Rattle.std.proofs.Math.Seq.{take-append_seam, drop-append_seam}
use Rattle.ua_table.specs.declared.origins.Origin.{Origin}
use Rattle.ua_table.specs.declared.origins.Origin.TheVariants.{Gen, Op}
use Rattle.ua_table.specs.Algebras.{Operation, FiniteAlgebra, arities_of}
use Rattle.ua_table.specs.Origins.{IsOrigin, arguments_of}
use Rattle.ua_term.specs.Meanings.{operation_number, has_operation}
use Rattle.ua_term.specs.Steps.{AreStepsFrom}
use Rattle.ua_cert.specs.declared.certs.CertStep.{CertStep}
use Rattle.ua_flaws.specs.Firsts.{first_bad}
use Rattle.ua_flaws.specs.Steps.{is_generator, arity_named, is_step, origin_of, origins_of, rows_named}
use Rattle.ua_flaws.proofs.FirstLaws.{both, all_below}

-- arguments with zeros after them
record Filled (k : ℕ) (args : List ℕ) : Type 0 where
  taken : take k (args ++ replicate (4 - length args) 0) ≡ args
  dropped : drop k (args ++ replicate (4 - length args) 0) ≡ replicate (4 - k) 0

filled : (k : ℕ) (args : List ℕ) → length args ≡ k → Filled k args
filled k args e = record {
  taken = ap (λ n. take n (args ++ replicate (4 - length args) 0)) (sym e) ∙ take-append_seam args (replicate (4 - length args) 0);
  dropped = ap (λ n. drop n (args ++ replicate (4 - length args) 0)) (sym e) ∙ drop-append_seam args (replicate (4 - length args) 0) ∙ ap (λ n. replicate (4 - n) 0) e;
}

-- what a step that passes the test is
pub record IsRead (a : FiniteAlgebra) (gens n : ℕ) (s : CertStep) : Type 0 where
  pub origin : IsOrigin (arities_of a) gens n (origin_of a s)
  pub arguments : arguments_of (arities_of a) (origin_of a s) ≡ rows_named s

module _ (a : FiniteAlgebra) (gens n : ℕ) (s : CertStep) where
  first_below : (xs : List ℕ) (m : ℕ) → (length xs == 1) ≡ true → list_all (λ x. nat_lt x m) xs ≡ true → slice_index xs 0 < m
  first_below [] m e h = cc
  first_below (x ∷ xs) m e h = (all_below m (x ∷ xs) h).0

  equal : (j k : ℕ) → (j == k) ≡ true → j ≡ k
  equal j k e = grind (arith, nat_tests)

  low : (j k : ℕ) → nat_lt j k ≡ true → j < k
  low j k e = grind (arith, nat_tests)

  operation_read : is_generator s ≡ false → (has_operation a s.word && ((length s.args == arity_named a s) && list_all (λ x. nat_lt x n) s.args)) ≡ true
      → IsOrigin (arities_of a) gens n (Op (operation_number a s.word) (s.args ++ replicate (4 - length s.args) 0)) × (arguments_of (arities_of a) (Op (operation_number a s.word) (s.args ++ replicate (4 - length s.args) 0)) ≡ s.args)
  operation_read g e =
      let x = both _ _ e in
      let y = both _ _ x.1 in
      let count : length s.args ≡ arity_named a s = equal _ _ y.0 in
      let f = filled (arity_named a s) s.args count in
      let ops = length-map a.operations (λ (o : Operation). o.arity) in
      let there = low (operation_number a s.word) (length a.operations) x.0 in (
        record {
          operation = omega (arith, ops, there);
          count = ap length f.taken ∙ count;
          earlier = subst (AllByRecursion (λ v. v < n)) (sym f.taken) (all_below n s.args y.1);
          unused = f.dropped;
        },
        f.taken,
      )

  pub step_read : is_step a gens n s ≡ true → IsRead a gens n s
  step_read e = record { origin = parts.0; arguments = parts.1 }
    where
      parts : IsOrigin (arities_of a) gens n (origin_of a s) × (arguments_of (arities_of a) (origin_of a s) ≡ rows_named s)
      parts = elim (is_generator s) as (λ b. is_generator s ≡ b
          → cond b ((length s.args == 1) && list_all (λ x. nat_lt x gens) s.args) (has_operation a s.word && ((length s.args == arity_named a s) && list_all (λ x. nat_lt x n) s.args)) ≡ true
          → IsOrigin (arities_of a) gens n
          (cond b (Gen (slice_index s.args 0)) (Op (operation_number a s.word) (s.args ++ replicate (4 - length s.args) 0)))
          × (arguments_of (arities_of a)
          (cond b (Gen (slice_index s.args 0)) (Op (operation_number a s.word) (s.args ++ replicate (4 - length s.args) 0)))
          ≡ cond b [] s.args)) [
            | true ↦ λ g h. (let x = both _ _ h in (first_below s.args gens x.0 x.1, refl))
            | false ↦ λ g h. operation_read g h
          ] refl e

-- steps that pass are steps
pub steps_read : (a : FiniteAlgebra) (gens n : ℕ) (steps : List CertStep) → first_bad (is_step a gens) n steps ≡ None → AreStepsFrom (arities_of a) gens n (origins_of a steps)
steps_read a gens n [] h = tt
steps_read a gens n (s ∷ ss) h =
    elim (is_step a gens n s) as (λ b. is_step a gens n s ≡ b → cond b (first_bad (is_step a gens) (suc n) ss) (Some n) ≡ None → AreStepsFrom (arities_of a) gens n (origins_of a (s ∷ ss))) [
      | true ↦ λ e k. let z : suc n ≡ n + 1 = omega arith in ((step_read a gens n s e).origin, subst (λ m. AreStepsFrom (arities_of a) gens m (origins_of a ss)) z (steps_read a gens (suc n) ss k))
      | false ↦ λ e k. cc
    ] refl h

-- what a read that gives an origin says
pub record Passed (a : FiniteAlgebra) (gens n : ℕ) (s : CertStep) (o : Origin) : Type 0 where
  pub step : is_step a gens n s ≡ true
  pub origin : o ≡ origin_of a s

pub passed : (a : FiniteAlgebra) (gens n : ℕ) (s : CertStep) (o : Origin) → Some o ≡ cond (is_step a gens n s) (Some (origin_of a s)) None → Passed a gens n s o
passed a gens n s o e =
    elim (is_step a gens n s) as (λ b. is_step a gens n s ≡ b → Some o ≡ cond b (Some (origin_of a s)) None → Passed a gens n s o) [
      | true ↦ λ t k. record { step = t; origin = cc }
      | false ↦ λ t k. cc
    ] refl e
