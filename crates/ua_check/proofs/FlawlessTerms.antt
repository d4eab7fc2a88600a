-- What is written of an answer on conditions and chains that is right has no flaw.
use Rattle.std.proofs.Common.{◌≡◌, ℕ, zero, suc, ◌+◌, ◌<◌, ◌≤◌, Bool, true, false, not, ◌&&◌, ◌||◌, cond, Some, None, List, [], ◌∷◌, map, length, refl, sym, ap, ◌∙◌, subst, arith}
use Rattle.std.specs.Prelude.{Contains, slice_get, slice_index, slice_index_or, nat_lt, ◌==◌, ◌%◌}
use Rattle.std.specs.List.{AllByRecursion, list_any, enumerate_from}
use Rattle.std.specs.Option.{is_none}
use Rattle.std.proofs.lemmas.Bool.Decides.{nat_tests}
use Rattle.std.proofs.lemmas.List.{length-map}
use Rattle.std.proofs.lemmas.Bool.{and_from, or_from}
use Rattle.std.proofs.lemmas.Option.{slice_get_within, get_or_from_slice_get}
use Rattle.ua_table.specs.declared.limits.TheConstants.{WIDTH}
use Rattle.ua_table.specs.declared.origins.Origin.{Origin}
use Rattle.ua_table.specs.Algebras.{Vector, FiniteAlgebra, IsVector, arities_of, IsIncreasing, power}
use Rattle.ua_table.specs.Tables.{IsAlgebraTable}
use Rattle.ua_table.specs.Terms.{Tree, eval}
use Rattle.ua_table.specs.Refusals.{first_refusal}
use Rattle.ua_table.proofs.Lists.{found, All-slice_get}
use Rattle.ua_table.proofs.RefusalLaws.{passed, refusal_if-false}
use Rattle.ua_term.specs.Steps.{AreSteps, written_term}
use Rattle.ua_term.specs.Assignments.{assignments}
use Rattle.ua_term.proofs.AssignmentLaws.{assignment_from, read_all}
use Rattle.ua_table.specs.Sequences.{Alternates, BeginsWith, EndsWith}
use Rattle.ua_identity.specs.Identities.{TermIdentity, at_pattern, Satisfies}
use Rattle.ua_identity.specs.Conditions.{Meets}
use Rattle.ua_identity.specs.Chains.{ChainKind, Link, AreLinked, IsOwn, IsPlace, IsChain}
use Rattle.ua_identity.specs.Patterns.{condition_power, argument_vectors, value_vector}
use Rattle.ua_cert.specs.declared.certs.CertStep.{CertStep}
use Rattle.ua_cert.specs.declared.certs.CondName.{CondName}
use Rattle.ua_cert.specs.declared.certs.ChainName.{ChainName}
use Rattle.ua_flaws.specs.declared.flaws.ListName.TheVariants.{Rows}
use Rattle.ua_flaws.specs.declared.flaws.Flaw.TheVariants as flaw
use Rattle.ua_flaws.specs.Firsts.{first_bad}
use Rattle.ua_flaws.specs.Steps.{written_step, written_steps, last_term}
use Rattle.ua_flaws.specs.Answers.{AreExact}
use Rattle.ua_flaws.specs.Flaws.{steps_flaw, outside_lines}
use Rattle.ua_flaws.specs.Laws.{WrittenIsFlawless, WrittenIsRead, VectorsAreFlawless, LackingIsFlawless}
use Rattle.ua_check.specs.Conditions.{condition_of, has_places, is_no_condition, fails, identity_failure, failure_flaw, condition_lines, condition_flaw, width_of, no_condition_lines, no_condition_flaw}
use Rattle.ua_check.specs.Chains.{kind_of, chain_width, place_identity, satisfies, satisfies_all, is_fit, link_at, is_unlinked, are_linked, is_in_chain, links_flaw, term_flaw, is_without_term, chain_lines, chain_flaw}
use Rattle.ua_flaws.proofs.FirstLaws.{none_of}
use Rattle.ua_flaws.proofs.PassLaws.{is_equal, no_line, no_option, none_bad, none_found}
use Rattle.ua_check.proofs.ChainLaws.{IsLinked}
use Rattle.ua_check.proofs.ReachedRows.{where_so}

-- ---- identities

satisfied_none : (a : FiniteAlgebra) (t : Tree) (i : TermIdentity) → Satisfies a t i → identity_failure a t i ≡ None
satisfied_none a t i h = none_found (fails a t i) (assignments a.size i.pattern.variables) (λ xs c. ap not (is_equal (at_pattern a i.pattern t xs) (slice_index xs i.value) (h xs (assignment_from a.size i.pattern.variables xs c))))

no_identity_flaw : (a : FiniteAlgebra) (t : Tree) (n : ℕ) (is : List TermIdentity) → AllByRecursion (Satisfies a t) is → first_refusal (map (failure_flaw a t) (enumerate_from n is)) ≡ None
no_identity_flaw a t n [] h = refl
no_identity_flaw a t n (i ∷ is) h =
    passed (failure_flaw a t (n, i)) (map (failure_flaw a t) (enumerate_from (n + 1) is)) (no_option (λ (xs : List ℕ). flaw.Identity n (slice_index xs 0) (slice_index xs 1)) (identity_failure a t i) (satisfied_none a t i h.0))
    ∙ no_identity_flaw a t (n + 1) is h.1

-- the steps write this term
last_written : WrittenIsRead → (a : FiniteAlgebra) → IsAlgebraTable a → (gens : ℕ) (os : List Origin) → AreSteps (arities_of a) gens os → last_term a (written_steps a os) ≡ written_term (arities_of a) os
last_written read a table gens os steps = ap (λ zs. written_term (arities_of a) zs) (read a gens os table steps)

some_steps : (a : FiniteAlgebra) (os : List Origin) → 0 < length os → (length (written_steps a os) == 0) ≡ false
some_steps a os some = let count = length-map os (written_step a) in positive (length (written_steps a os)) (omega (arith, some, count))
  where
    positive : (n : ℕ) → 0 < n → (n == 0) ≡ false
    positive n h = grind (arith, nat_tests)

-- ---- conditions

fits : (a : FiniteAlgebra) (name : CondName) (k : ℕ) → has_places name k ≡ true → length (condition_power a (condition_of name k)) ≤ WIDTH → is_no_condition a name k ≡ false
fits a name k places few = or_from (not (has_places name k)) (nat_lt WIDTH (length (condition_power a (condition_of name k)))) (ap not places) (within (length (condition_power a (condition_of name k))) few)
  where
    within : (n : ℕ) → n ≤ WIDTH → nat_lt WIDTH n ≡ false
    within n l = grind (arith, nat_tests)

pub flawless_condition : WrittenIsFlawless → WrittenIsRead → (a : FiniteAlgebra) → IsAlgebraTable a → (name : CondName) (k : ℕ) (os : List Origin)
    → has_places name k ≡ true → length (condition_power a (condition_of name k)) ≤ WIDTH → 0 < length os → AreSteps (arities_of a) k os
    → Meets a (written_term (arities_of a) os) (condition_of name k) → condition_flaw a name k (written_steps a os) ≡ None
flawless_condition fine read a table name k os places few some steps meets =
    no_line (condition_lines a name k (written_steps a os)) (
      refusal_if-false (is_no_condition a name k || (length (written_steps a os) == 0)) flaw.Width (or_from (is_no_condition a name k) (length (written_steps a os) == 0) (fits a name k places few) (some_steps a os some)),
      (
        fine a k None os table steps,
        (no_identity_flaw a (last_term a (written_steps a os)) 0 (condition_of name k).identities (subst (λ t. Meets a t (condition_of name k)) (sym (last_written read a table k os steps)) meets), tt),
      ),
    )

pub flawless_no_condition : VectorsAreFlawless → LackingIsFlawless → (a : FiniteAlgebra) (name : CondName) (k : ℕ) (rows : List Vector)
    → has_places name k ≡ true → length (condition_power a (condition_of name k)) ≤ WIDTH → IsIncreasing rows
    → AllByRecursion (IsVector (power a (width_of a name k))) rows
    → AreExact a (width_of a name k) (argument_vectors a (condition_of name k)) rows → (Contains rows (value_vector a (condition_of name k)) → ⊥) → no_condition_flaw a name k rows ≡ None
flawless_no_condition fine lacking a name k rows places few inc vectors exact absent =
    no_line (no_condition_lines a name k rows) (
      refusal_if-false (is_no_condition a name k) flaw.Width (fits a name k places few),
      (
        fine a (width_of a name k) Rows rows vectors,
        none_of (outside_lines a (width_of a name k) (argument_vectors a (condition_of name k)) rows (value_vector a (condition_of name k)))
            (lacking a (width_of a name k) (argument_vectors a (condition_of name k)) rows (value_vector a (condition_of name k)) inc exact absent),
      ),
    )

-- ---- chains

no_term_flaw : WrittenIsFlawless → (a : FiniteAlgebra) → IsAlgebraTable a → (places n : ℕ) (lists : List (List Origin))
    → AllByRecursion (AreSteps (arities_of a) places) lists
    → first_refusal (map (term_flaw a places) (enumerate_from n (map (written_steps a) lists))) ≡ None
no_term_flaw fine a table places n [] h = refl
no_term_flaw fine a table places n (os ∷ lists) h =
    passed (steps_flaw a places (Some n) (written_steps a os)) (map (term_flaw a places) (enumerate_from (n + 1) (map (written_steps a) lists))) (fine a places (Some n) os table h.0)
    ∙ no_term_flaw fine a table places (n + 1) lists h.1

-- each term has steps
none_empty : (a : FiniteAlgebra) (lists : List (List Origin)) → AllByRecursion (λ (os : List Origin). 0 < length os) lists → list_any (λ (steps : List CertStep). length steps == 0) (map (written_steps a) lists) ≡ false
none_empty a [] h = refl
none_empty a (os ∷ lists) h = or_from (length (written_steps a os) == 0) (list_any (λ (steps : List CertStep). length steps == 0) (map (written_steps a) lists)) (some_steps a os h.0) (none_empty a lists h.1)

terms_written : WrittenIsRead → (a : FiniteAlgebra) → IsAlgebraTable a → (places : ℕ) (lists : List (List Origin))
    → AllByRecursion (AreSteps (arities_of a) places) lists
    → map (last_term a) (map (written_steps a) lists) ≡ map (written_term (arities_of a)) lists
terms_written read a table places [] h = refl
terms_written read a table places (os ∷ lists) h =
    let here = last_written read a table places os h.0 in
    let rest = terms_written read a table places lists h.1 in
    λ i. here i ∷ rest i

-- the first of a list, and the last
first_of : {X : Type 0} (P : X → Type 0) (xs : List X) (i : ℕ) (x : X) → BeginsWith P xs → slice_get xs i ≡ Some x → (i == 0) ≡ true → P x
first_of P [] i x b at e = cc
first_of P (y ∷ ys) zero x b at e = let same : y ≡ x = cc in subst P same b
first_of P (y ∷ ys) (suc i) x b at e = absurd (not_zero e)
  where
    not_zero : (suc i == 0) ≡ true → ⊥
    not_zero e = grind (arith, nat_tests)

last_of : {X : Type 0} (P : X → Type 0) (xs : List X) (i : ℕ) (x : X) → EndsWith P xs → slice_get xs i ≡ Some x → i + 1 ≡ length xs → P x
last_of P [] i x l at e = cc
last_of P (y ∷ []) zero x l at e = let same : y ≡ x = cc in subst P same l
last_of P (y ∷ []) (suc i) x l at e = absurd (omega (arith, e))
last_of P (y ∷ z ∷ zs) zero x l at e = absurd (omega (arith, e))
last_of P (y ∷ z ∷ zs) (suc i) x l at e = last_of P (z ∷ zs) i x l at (omega (arith, e))

linked_at : {X : Type 0} (E O : X → X → Type 0) (xs : List X) (i : ℕ) (x y : X) → Alternates E O xs → slice_get xs i ≡ Some x → slice_get xs (suc i) ≡ Some y → IsLinked E O i x y
linked_at E O [] i x y l at next = cc
linked_at E O (u ∷ []) i x y l at next = cc
linked_at E O (u ∷ v ∷ rest) zero x y l at next =
    let first : u ≡ x = cc in let second : v ≡ y = cc in
    record { even = λ e. subst (λ z. E x z) second (subst (λ z. E z v) first l.0); odd = λ e. absurd (omega (arith, e)) }
linked_at E O (u ∷ v ∷ rest) (suc i) x y l at next =
    let h = linked_at O E (v ∷ rest) i x y l.1 at next in
    record { even = λ e. h.odd (omega (arith, e)); odd = λ e. h.even (omega (arith, e)) }

module _ (a : FiniteAlgebra) (kind : ChainKind) (terms : List Tree) (chain : IsChain a kind terms) where
  passes_all : (is : List TermIdentity) (t : Tree) → AllByRecursion (Satisfies a t) is → satisfies_all a is t ≡ true
  passes_all [] t h = refl
  passes_all (i ∷ is) t h = and_from (satisfies a i t) (satisfies_all a is t) (ap is_none (satisfied_none a t i h.0)) (passes_all is t h.1)

  passes_place : (j : ℕ) (t : Tree) → IsPlace a kind.places j t → satisfies a (place_identity kind.places j) t ≡ true
  passes_place j t h = ap is_none (satisfied_none a t (place_identity kind.places j) (λ xs k. ap (λ ys. eval a ys t) (read_all xs kind.places k.count) ∙ h xs k))

  passes_link : (l : Link) (d e : Tree) → AreLinked a l d e → are_linked a l d e ≡ true
  passes_link l d e h =
      ap is_none
      (none_found (is_unlinked a l d e) (assignments a.size l.pattern.variables)
      (λ xs c.
      ap not (is_equal (at_pattern a l.pattern d xs) (at_pattern a l.next e xs) (h xs (assignment_from a.size l.pattern.variables xs c)))))

  unless_so : (b c : Bool) → (b ≡ false → c ≡ true) → (b || c) ≡ true
  unless_so true c h = refl
  unless_so false c h = h refl

  ends_here : (i : ℕ) → (i + 1 == length terms) ≡ true → i + 1 ≡ length terms
  ends_here i e = grind (arith, nat_tests)

  goes_on : (i : ℕ) → i < length terms → (i + 1 == length terms) ≡ false → suc i < length terms
  goes_on i l e = grind (arith, nat_tests, l)

  link_here : (i : ℕ) (x y : Tree) → slice_get terms i ≡ Some x → slice_get terms (suc i) ≡ Some y → AreLinked a (link_at kind i) x y
  link_here i x y at next =
      elim ((i % 2) == 0) as (λ b. ((i % 2) == 0) ≡ b → AreLinked a (cond b kind.even kind.odd) x y) [
        | true ↦ λ e. (linked_at (AreLinked a kind.even) (AreLinked a kind.odd) terms i x y chain.beginning.linked at next).even (zero_is (i % 2) e)
        | false ↦ λ e. (linked_at (AreLinked a kind.even) (AreLinked a kind.odd) terms i x y chain.beginning.linked at next).odd (one_is i e)
      ] refl
    where
      zero_is : (m : ℕ) → (m == 0) ≡ true → m ≡ 0
      zero_is m e = grind (arith, nat_tests)

      not_zero : (m : ℕ) → (m == 0) ≡ false → 0 < m
      not_zero m e = grind (arith, nat_tests)

      one_is : (m : ℕ) → ((m % 2) == 0) ≡ false → m % 2 ≡ 1
      one_is m e = let some = not_zero (m % 2) e in omega (arith, some)

  next_of : (i : ℕ) → suc i < length terms → (y : Tree) × (slice_get terms (suc i) ≡ Some y)
  next_of i l = found terms (suc i) l

  in_chain : (i : ℕ) (t : Tree) → slice_get terms i ≡ Some t → is_in_chain a kind terms i t ≡ true
  in_chain i t at =
      let own = passes_all kind.own t (All-slice_get (IsOwn a kind) terms i t chain.beginning.own at) in
      let first = where_so (i == 0) (satisfies a (place_identity kind.places 0) t) (λ e. passes_place 0 t (first_of (IsPlace a kind.places 0) terms i t chain.beginning.first at e)) in
      let last = where_so (i + 1 == length terms) (satisfies a (place_identity kind.places kind.end) t) (λ e. passes_place kind.end t (last_of (IsPlace a kind.places kind.end) terms i t chain.last at (ends_here i e))) in
      let link = unless_so (i + 1 == length terms) (are_linked a (link_at kind i) t (slice_index_or terms (i + 1) t)) (λ e.
      let n = next_of i (goes_on i (slice_get_within terms i t at) e) in
      let one : i + 1 ≡ suc i = omega arith in
      let is : slice_index_or terms (i + 1) t ≡ n.0 = ap (λ k. slice_index_or terms k t) one ∙ get_or_from_slice_get terms (suc i) n.0 t n.1 in
      subst (λ z. are_linked a (link_at kind i) t z ≡ true) (sym is) (passes_link (link_at kind i) t n.0 (link_here i t n.0 at n.1))) in
      and_from (is_fit a kind (length terms) i t) ((i + 1 == length terms) || are_linked a (link_at kind i) t (slice_index_or terms (i + 1) t))
      (and_from (satisfies_all a kind.own t) ((not (i == 0) || satisfies a (place_identity kind.places 0) t) && (not (i + 1 == length terms) || satisfies a (place_identity kind.places kind.end) t)) own
      (and_from (not (i == 0) || satisfies a (place_identity kind.places 0) t) (not (i + 1 == length terms) || satisfies a (place_identity kind.places kind.end) t) first last))
      link

  no_link_flaw : links_flaw a kind terms ≡ None
  no_link_flaw = no_option flaw.Link (first_bad (is_in_chain a kind terms) 0 terms) (none_bad (is_in_chain a kind terms) 0 terms (λ i t at. (let z : 0 + i ≡ i = omega arith in ap (λ k. is_in_chain a kind terms k t) z ∙ in_chain i t at)))

pub flawless_chain : WrittenIsFlawless → WrittenIsRead → (a : FiniteAlgebra) → IsAlgebraTable a → (name : ChainName) (lists : List (List Origin))
    → chain_width a (kind_of name) ≤ WIDTH → AllByRecursion (λ (os : List Origin). 0 < length os) lists
    → AllByRecursion (AreSteps (arities_of a) (kind_of name).places) lists
    → IsChain a (kind_of name) (map (written_term (arities_of a)) lists) → chain_flaw a name (map (written_steps a) lists) ≡ None
flawless_chain fine read a table name lists narrow some steps chain =
    let terms : List (List CertStep) = map (written_steps a) lists in
    let count : length terms ≡ length lists = length-map lists (written_steps a) in
    let is = terms_written read a table (kind_of name).places lists steps in
    no_line (chain_lines a (kind_of name) terms) (
      refusal_if-false (nat_lt WIDTH (chain_width a (kind_of name)) || is_without_term terms) flaw.Width (or_from (nat_lt WIDTH (chain_width a (kind_of name))) (is_without_term terms) (within (chain_width a (kind_of name)) narrow)
          (or_from (length terms == 0) (list_any (λ (steps : List CertStep). length steps == 0) terms) (nonempty lists chain) (none_empty a lists some))),
      (
        no_term_flaw fine a table (kind_of name).places 0 lists steps,
        (subst (λ ts. links_flaw a (kind_of name) ts ≡ None) (sym is) (no_link_flaw a (kind_of name) (map (written_term (arities_of a)) lists) chain), tt),
      ),
    )
  where
    within : (n : ℕ) → n ≤ WIDTH → nat_lt WIDTH n ≡ false
    within n l = grind (arith, nat_tests)

    nonempty : (ls : List (List Origin)) → IsChain a (kind_of name) (map (written_term (arities_of a)) ls) → (length (map (written_steps a) ls) == 0) ≡ false
    nonempty [] c = absurd c.last
    nonempty (l ∷ ls) c = grind (arith, nat_tests)
