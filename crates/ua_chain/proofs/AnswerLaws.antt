-- Chains from rows and their steps.
use Rattle.std.proofs.Common.{◌≡◌, ℕ, ◌+◌, ◌-◌, ◌<◌, ◌≤◌, Bool, true, false, List, [], ◌∷◌, ◌++◌, length, take, refl, sym, ap, ◌∙◌, subst, arith, Some, ⊎_elim}
use Rattle.std.specs.Prelude.{Contains, slice_index, slice_index_or, slice_get}
use Rattle.std.proofs.lemmas.List.{length_push, get_or_append_left, get_or_at, get_or-take, length-take-le, get_or_past}
use Rattle.std.proofs.lemmas.List.Elements.{Contains-push, Contains-push_cases, Contains-append_left, Contains-get_or}
use Rattle.std.proofs.lemmas.Option.{get_or_from_slice_get}
use Rattle.std.proofs.lemmas.Bool.{cases_lt, false≢true}
use Rattle.ua_table.specs.declared.origins.Origin.{Origin}
use Rattle.ua_table.specs.Algebras.{Vector, FiniteAlgebra, Product, arities, arities_of}
use Rattle.ua_table.specs.Terms.{Generator, IsTerm, term_value}
use Rattle.ua_table.proofs.Lists.{mapped_from}
use Rattle.ua_table.proofs.FrameLaws.{arities_of_power}
use Rattle.ua_term.specs.Steps.{StepList, unfolded, step_term, step_values}
use Rattle.ua_term.proofs.StepLaws.{step_is_term}
use Rattle.ua_close.specs.Memberships.{AreStepsTo}
use Rattle.ua_identity.specs.Chains.{ChainKind}
use Rattle.ua_identity.specs.Patterns.{all_fillings, vector_of, generators}
use Rattle.ua_chain.specs.Answers.{term_of, AreTermSteps}
use Rattle.ua_chain.specs.inner.Charts.{IsRowOf}
use Rattle.ua_identity.proofs.PatternLaws.{value_is_vector}
use Rattle.ua_identity.proofs.ChainLaws.{generator_count, all_filled}
use Rattle.ua_chain.specs.inner.Closures.{IsClosureOf, AreMarkedNumbers}

-- ---- steps of a row

-- steps of which the term has the row as its vector
pub record AreStepsOf (a : FiniteAlgebra) (kind : ChainKind) (vectors : List Vector) (s : StepList) (i : ℕ) : Type 0 where
  pub steps : AreTermSteps a kind s
  pub row : IsRowOf a kind vectors (term_of s) i

some_items : (p : Product) (gens : List Vector) (items : List Origin) (v : Vector) → slice_get (step_values p gens items) (length items - 1) ≡ Some v → 0 < length items
some_items p gens [] v e = cc
some_items p gens (o ∷ items) v e = omega arith

pub step_row : (a : FiniteAlgebra) (kind : ChainKind) (p : Product) (gens vs : List Vector) (s : StepList) (row : ℕ) (v : Vector) → IsClosureOf a kind p gens → slice_get vs row ≡ Some v → AreStepsTo p gens v s → AreStepsOf a kind vs s row
step_row a kind p gens vs s row v c at to =
    let fs = all_fillings a.size kind.patterns in
    let some = some_items p gens s.items v to.value in
    let last : length s.items - 1 < length s.items = omega (arith, some) in
    let arity : arities p ≡ arities_of a = ap arities c.product_is ∙ arities_of_power a (length fs) c.wide in
    let count : length gens ≡ kind.places = ap length c.gens_are ∙ generator_count a kind.patterns kind.places in
    let term = step_is_term s.arities s.gens s.items (length s.items - 1) to.steps last in
    let is_term : IsTerm (arities_of a) kind.places (term_of s) = subst (λ (ks : List ℕ). IsTerm ks kind.places (term_of s)) (to.arities_are ∙ arity) (subst (λ n. IsTerm s.arities n (term_of s)) (to.generators ∙ count) term) in
    let here = mapped_from (term_value p gens) (unfolded (arities p) s.items) (length s.items - 1) v to.value in
    let same : term_of s ≡ here.0 = ap (λ (ks : List ℕ). step_term ks s.items (length s.items - 1)) to.arities_are ∙ get_or_from_slice_get (unfolded (arities p) s.items) (length s.items - 1) here.0 (Generator 0) here.1 in
    let value : term_value p gens (term_of s) ≡ v = ap (term_value p gens) same ∙ here.2 in
    let vector : vector_of a kind.patterns (term_of s) ≡ v =
    sym (value_is_vector a fs kind.places (term_of s) (all_filled kind.places a.size kind.patterns c.is_kind.patterns) is_term)
    ∙ ap (λ (q : Product). term_value q (generators a kind.patterns kind.places) (term_of s)) (sym c.product_is)
    ∙ ap (λ (gs : List Vector). term_value p gs (term_of s)) (sym c.gens_are)
    ∙ value in
    record {
      steps = record { arities_are = to.arities_are ∙ arity; places_are = to.generators ∙ count; steps = to.steps; some = some };
      row = record { is_term = is_term; stands = at ∙ ap Some (sym vector) };
    }

-- ---- marked numbers

marked_more : (marks : List Bool) (i j : ℕ) → j < i → slice_index_or (take (i + 1) marks) j false ≡ slice_index_or (take i marks) j false
marked_more marks i j low = get_or-take (i + 1) marks j false (omega (arith, low)) ∙ sym (get_or-take i marks j false low)

marked_last : (marks : List Bool) (i : ℕ) → slice_index_or (take (i + 1) marks) i false ≡ slice_index_or marks i false
marked_last marks i = get_or-take (i + 1) marks i false (omega arith)

marked_within : (marks : List Bool) (i j : ℕ) → i ≤ length marks → slice_index_or (take i marks) j false ≡ true → j < i
marked_within marks i j l e = ⊎_elim (λ low. low) (λ past. absurd (false≢true (sym (get_or_past (take i marks) j false (let n = length-take-le i marks l in omega (arith, n, past))) ∙ e))) (cases_lt j i)

pub numbers_skip : (marks : List Bool) (i : ℕ) (numbers : List ℕ) → i < length marks → slice_index_or marks i false ≡ false → AreMarkedNumbers (take i marks) numbers → AreMarkedNumbers (take (i + 1) marks) numbers
numbers_skip marks i numbers l out h = record {
  ascending = h.ascending;
  exact = λ j. (
    λ c. let m = (h.exact j).0 c in marked_more marks i j (marked_within marks i j (omega (arith, l)) m) ∙ m,
    λ m. let low = marked_within marks (i + 1) j (omega (arith, l)) m in
        ⊎_elim
        (λ (below : j < i). (h.exact j).1 (sym (marked_more marks i j below) ∙ m))
        (λ above. let same : j ≡ i = omega (arith, low, above) in absurd (false≢true (sym out ∙ sym (marked_last marks i) ∙ ap (λ k. slice_index_or (take (i + 1) marks) k false) (sym same) ∙ m)))
        (cases_lt j i),
  );
}

pub numbers_more : (marks : List Bool) (i : ℕ) (numbers numbers' : List ℕ) → i < length marks → slice_index_or marks i false ≡ true
    → numbers' ≡ numbers ++ i ∷ [] → AreMarkedNumbers (take i marks) numbers → AreMarkedNumbers (take (i + 1) marks) numbers'
numbers_more marks i numbers numbers' l fit e h =
    let long = ap length e ∙ length_push numbers i in
    let at_old : (k : ℕ) → k < length numbers → slice_index numbers' k ≡ slice_index numbers k = λ k low. ap (λ (xs : List ℕ). slice_index xs k) e ∙ get_or_append_left numbers (i ∷ []) 0 k low in
    let at_end : slice_index numbers' (length numbers) ≡ i = ap (λ (xs : List ℕ). slice_index xs (length numbers)) e ∙ get_or_at numbers i [] 0 (length numbers) refl in
    let low_old : (k : ℕ) → k < length numbers → slice_index numbers k < i = λ k low. marked_within marks i (slice_index numbers k) (omega (arith, l)) ((h.exact (slice_index numbers k)).0 (Contains-get_or numbers k 0 low)) in
    record {
      ascending = λ j k less within. ⊎_elim
          (λ (low : k < length numbers). let left = at_old j (omega (arith, less, low)) in let right = at_old k low in let both = h.ascending j k less low in omega (arith, left, right, both))
          (λ high. let last : k ≡ length numbers = omega (arith, high, within, long) in
          let left = at_old j (omega (arith, less, last)) in
          let right = ap (slice_index numbers') last ∙ at_end in
          let below = low_old j (omega (arith, less, last)) in
          omega (arith, left, right, below))
          (cases_lt k (length numbers));
      exact = λ j. (
        λ c. ⊎_elim
            (λ old. let m = (h.exact j).0 old in marked_more marks i j (marked_within marks i j (omega (arith, l)) m) ∙ m)
            (λ same. ap (λ k. slice_index_or (take (i + 1) marks) k false) (sym same) ∙ marked_last marks i ∙ fit)
            (Contains-push_cases numbers i j (subst (λ (xs : List ℕ). Contains xs j) e c)),
        λ m. let low = marked_within marks (i + 1) j (omega (arith, l)) m in
            subst (λ (xs : List ℕ). Contains xs j) (sym e)
            (⊎_elim
            (λ (below : j < i). Contains-append_left numbers (i ∷ []) j ((h.exact j).1 (sym (marked_more marks i j below) ∙ m)))
            (λ above. let same : i ≡ j = omega (arith, low, above) in subst (Contains (numbers ++ i ∷ [])) same (Contains-push numbers i))
            (cases_lt j i)),
      );
    }
