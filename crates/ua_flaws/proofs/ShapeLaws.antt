-- What the test of a vector says.
use Rattle.std.proofs.Common.{◌≡◌, ℕ, zero, suc, ◌<◌, ◌≤◌, true, false, Option, None, Result, Ok, Err, List, [], ◌∷◌, length, sym, ap, ◌∙◌, subst, arith}
use Rattle.std.specs.Prelude.{IsOk}
use Rattle.ua_table.specs.declared.limits.TheConstants.{SIZE, WIDTH}
use Rattle.ua_table.specs.Algebras.{FiniteAlgebra, Product, IsVector, power}
use Rattle.ua_table.specs.Refusals.{is_outside}
use Rattle.ua_table.proofs.Lists.{all_weaker}
use Rattle.ua_rows.specs.RowLists.{RowList}
use Rattle.ua_flaws.specs.declared.flaws.Flaw.{Flaw}
use Rattle.ua_flaws.specs.declared.flaws.CheckError.{CheckError}
use Rattle.ua_flaws.specs.inner.Closing.{IsTableOver}
use Rattle.ua_table.specs.declared.origins.Origin.{Origin}
use Rattle.ua_table.specs.Algebras.{arities, arities_of}
use Rattle.ua_term.specs.Steps.{AreSteps}
use Rattle.ua_cert.specs.declared.certs.CertStep.{CertStep}
use Rattle.ua_flaws.specs.declared.flaws.Flaw.TheVariants as flaw
use Rattle.ua_flaws.specs.Firsts.{first_bad}
use Rattle.ua_flaws.specs.Steps.{is_step, origins_of}
use Rattle.ua_flaws.specs.Flaws.{Tells, steps_flaw}
use Rattle.ua_flaws.proofs.StepLaws.{steps_read}
use Rattle.std.specs.Prelude.{◌==◌, nat_lt}
use Rattle.std.specs.List.{AllByRecursion, list_all}
use Rattle.std.proofs.lemmas.Bool.Decides.{nat_tests}
use Rattle.std.proofs.lemmas.Bool.{or_parts}
use Rattle.ua_table.specs.Algebras.{Vector}
use Rattle.ua_table.proofs.FrameLaws.{arities_of_power}
use Rattle.ua_flaws.specs.Shapes.{is_vector, IsOver}
use Rattle.ua_flaws.proofs.FirstLaws.{both, all_below, option_none}

pub is_over : (size width : ℕ) (v : Vector) → is_vector size width v ≡ true → IsOver size width v
is_over size width v e =
    let h = both (length v == width) (list_all (λ x. nat_lt x size) v) e in
    record { count = equal (length v) h.0; elements = all_below size v h.1 }
  where
    equal : (n : ℕ) → (n == width) ≡ true → n ≡ width
    equal n t = grind (arith, nat_tests)

pub wide : (width : ℕ) → is_outside width WIDTH ≡ false → 0 < width
wide width e = let h = or_parts (width == 0) (nat_lt WIDTH width) e in some h.0
  where
    some : (width == 0) ≡ false → 0 < width
    some z = grind (arith, nat_tests)

widened : (size width : ℕ) (v : Vector) → size ≤ SIZE → IsOver size width v → IsOver SIZE width v
widened size width v h o = record { count = o.count; elements = all_weaker (λ x. x < size) (λ x. x < SIZE) (λ x l. omega (arith, h, l)) v o.elements }

-- elements are below the greatest size
pub all_elements : (size width : ℕ) (vs : List Vector) → size ≤ SIZE → AllByRecursion (IsOver size width) vs → AllByRecursion (IsOver SIZE width) vs
all_elements size width vs h all = all_weaker (IsOver size width) (IsOver SIZE width) (λ v o. widened size width v h o) vs all

vector_of_power : (a : FiniteAlgebra) (width : ℕ) (v : Vector) → length v ≡ width → AllByRecursion (λ x. x < a.size) v → IsVector (power a width) v
vector_of_power a zero [] e h = tt
vector_of_power a zero (x ∷ v) e h = absurd (omega (arith, e))
vector_of_power a (suc n) [] e h = absurd (omega (arith, e))
vector_of_power a (suc n) (x ∷ v) e h = (h.0, vector_of_power a n v (omega (arith, e)) h.1)

pub vectors_of_power : (a : FiniteAlgebra) (size width : ℕ) (vs : List Vector) → size ≡ a.size → AllByRecursion (IsOver size width) vs → AllByRecursion (IsVector (power a width)) vs
vectors_of_power a size width vs e all = all_weaker (IsOver size width) (IsVector (power a width)) (λ v o. vector_of_power a width v o.count (subst (λ n. AllByRecursion (λ x. x < n) v) e o.elements)) vs all

-- the rows of a certificate with the operations of their power
pub table_over : (a : FiniteAlgebra) (ops : Product) (list : RowList) (rows : List Vector) (size width : ℕ) → ops ≡ power a width → list.width ≡ width
    → list.items ≡ rows → 0 < width → size ≡ a.size → AllByRecursion (IsOver size width) rows → IsTableOver a ops list
table_over a ops list rows size width product w items s e all = record {
  product = product ∙ ap (power a) (sym w);
  some = omega (arith, s, w);
  vectors = subst (λ vs. AllByRecursion (IsVector ops) vs) (sym items) (subst (λ p. AllByRecursion (IsVector p) rows) (sym product) (vectors_of_power a size width rows e all));
}

-- an Ok tells that there is no flaw
pub told_none : {A : Type 0} (flaw : Option Flaw) (r : Result A CheckError) → Tells flaw r → IsOk r → flaw ≡ None
told_none flaw (Ok x) t h = t
told_none flaw (Err e) t h = cc

pub vectors_over : (a : FiniteAlgebra) (p : Product) (size width : ℕ) (gens items : List Vector) → p ≡ power a width → size ≡ a.size → items ≡ gens → AllByRecursion (IsOver size width) gens → AllByRecursion (IsVector p) items
vectors_over a p size width gens items product e same all =
    subst (λ vs. AllByRecursion (IsVector p) vs) (sym same) (subst (λ q. AllByRecursion (IsVector q) gens) (sym product) (vectors_of_power a size width gens e all))

-- steps without a flaw are steps of the power
pub steps_over : (a : FiniteAlgebra) (p : Product) (width : ℕ) (gens items : List Vector) (steps : List CertStep) (os : List Origin)
    → p ≡ power a width → is_outside width WIDTH ≡ false → items ≡ gens → os ≡ origins_of a steps → steps_flaw a (length gens) None steps ≡ None
    → AreSteps (arities p) (length items) os
steps_over a p width gens items steps os product inside same read none =
    let ks : arities_of a ≡ arities p = sym (ap arities product ∙ arities_of_power a width (wide width inside)) in
    let are : AreSteps (arities_of a) (length gens) (origins_of a steps) = steps_read a (length gens) 0 steps (option_none (flaw.Step None) (first_bad (is_step a (length gens)) 0 steps) none) in
    subst (λ zs. AreSteps zs (length items) os) ks
    (subst (λ n. AreSteps (arities_of a) n os) (ap length (sym same))
    (subst (AreSteps (arities_of a) (length gens)) (sym read) are))
