-- The certificates of answers have no flaw.
use Rattle.std.proofs.Common.{◌≡◌, ℕ, ◌-◌, ◌*◌, ◌<◌, ◌≤◌, ◌&&◌, true, Some, None, Ok, Vec, List, [], ◌∷◌, map, length, replicate, inr, ⊎_elim, refl, sym, ap, ◌∙◌, subst, arith}
use Rattle.std.specs.Prelude.{Contains, slice_get, nat_le}
use Rattle.std.specs.declared.alloc.Global.{Global}
use Rattle.std.specs.List.{AllByRecursion}
use Rattle.std.proofs.lemmas.Bool.{cases_lt}
use Rattle.std.proofs.lemmas.Bool.Decides.{nat_tests}
use Rattle.std.proofs.Math.Nat.{mul-le-mul_right}
use Rattle.std.proofs.lemmas.List.{length-map, length-replicate}
use Rattle.std.proofs.lemmas.List.FromFn.{length-map-range_with_len}
use Rattle.std.proofs.lemmas.Option.{get_or_from_slice_get}
use Rattle.ua_table.specs.declared.limits.TheConstants.{WIDTH, CELLS}
use Rattle.ua_table.specs.declared.origins.Origin.{Origin}
use Rattle.ua_table.specs.Algebras.{Vector, FiniteAlgebra, IsAlgebra, Product, IsProduct, IsVector, AreVectorsOf, IsIncreasing, arities_of, power}
use Rattle.ua_table.specs.Tables.{IsAlgebraTable}
use Rattle.ua_table.specs.Frames.{IsWidth}
use Rattle.ua_table.specs.Terms.{Tree}
use Rattle.ua_table.specs.Generated.{Sg}
use Rattle.ua_table.specs.Listings.{Row, vectors_of, IsClosedListing}
use Rattle.ua_table.proofs.Lists.{all_from_contains}
use Rattle.ua_table.proofs.FrameLaws.{arities_of_power}
use Rattle.ua_table.proofs.AlgebraLaws.{power_product}
use Rattle.ua_term.specs.Steps.{StepList, AreSteps, unfolded, written_term}
use Rattle.ua_identity.specs.declared.limits.TheConstants.{PLACES}
use Rattle.ua_identity.specs.Identities.{VariablePattern, TermIdentity, over_two}
use Rattle.ua_identity.specs.Conditions.{TermCondition, IsPattern, IsCondition, Meets, maltsev, majority, minority, pixley, near_unanimity}
use Rattle.ua_identity.specs.Chains.{ChainKind, IsChain, power_of, generators_of}
use Rattle.ua_identity.specs.Patterns.{all_fillings, place_vector, generators, patterns_of, condition_power, argument_vectors}
use Rattle.ua_identity.specs.Patterns as patterns
use Rattle.ua_close.specs.declared.memberships.Answer.TheVariants as answers
use Rattle.ua_close.specs.Answers.{IsWide}
use Rattle.ua_close.specs.Memberships.{AreStepsTo}
use Rattle.ua_cond.specs.Permitted.{MayDecide}
use Rattle.ua_chain.specs.declared.chains.Chain.TheVariants as chains
use Rattle.ua_chain.specs.Answers.{term_of, AreTermSteps}
use Rattle.ua_chain.specs.Permitted.{MayChain}
use Rattle.ua_cert.specs.declared.certs.CondName.{CondName}
use Rattle.ua_cert.specs.declared.certs.CondName.TheVariants.{Maltsev, Majority, Minority, Pixley, Nu}
use Rattle.ua_cert.specs.declared.certs.ChainName.{ChainName}
use Rattle.ua_cert.specs.declared.certs.ChainName.TheVariants.{Jonsson, Hm}
use Rattle.ua_flaws.specs.Laws.{MemberIsFlawless, NotMemberIsFlawless}
use Rattle.ua_flaws.specs.Answers.{AreExact, IsPowerListing}
use Rattle.ua_flaws.specs.Steps.{written_steps}
use Rattle.ua_flaws.specs.Flaws.{member_flaw, not_member_flaw}
use Rattle.ua_check.specs.Laws.{TermIsFlawless, NoTermIsFlawless, ChainTermsAreFlawless, NoChainIsFlawless}
use Rattle.ua_check.specs.Conditions.{condition_of, has_places, condition_flaw, no_condition_flaw}
use Rattle.ua_check.specs.Chains.{kind_of, chain_flaw}
use Rattle.ua_check.specs.Reached.{no_chain_flaw}
use Rattle.ua_check.proofs.ConditionLaws.{arity_is}

-- ---- laws of the crates below, as their functions state them

-- the members of a subuniverse are vectors of the product
abbrev pub MemberLaw : Type 0
MemberLaw = (p : Product) (gens : List Vector) (v : Vector) → IsProduct p → AllByRecursion (IsVector p) gens → Sg p gens v → IsVector p v

-- ---- powers

pub closed_power : (a : FiniteAlgebra) (width b : ℕ) (gens : List Vector) (rows : List Row) → MemberLaw → IsAlgebraTable a → IsWidth width
    → AllByRecursion (IsVector (power a width)) gens → IsClosedListing (power a width) gens b rows → IsPowerListing a width gens rows
closed_power a width b gens rows law table wide admitted closed = record {
  wide = wide;
  admitted = admitted;
  listing = closed.listing;
  exact = record { generated = λ v c. (closed.exact v).0 c; all = λ v s. (closed.exact v).1 s };
  vectors = all_from_contains (IsVector (power a width)) (vectors_of rows) (λ v c. law (power a width) gens v (power_product a width table.algebra wide.0) admitted ((closed.exact v).0 c));
}

-- ---- closures and members

pub steps_flawless : (a : FiniteAlgebra) (width : ℕ) (gens : List Vector) (target : Vector) (steps : StepList) → MemberIsFlawless → IsAlgebraTable a
    → IsWidth width → AllByRecursion (IsVector (power a width)) gens → IsVector (power a width) target → AreStepsTo (power a width) gens target steps
    → member_flaw a gens (written_steps a steps.items) target width ≡ None
steps_flawless a width gens target steps law table wide admitted one h =
    let ks : steps.arities ≡ arities_of a = h.arities_are ∙ arities_of_power a width wide.0 in
    let given : AreSteps (arities_of a) (length gens) steps.items = subst (λ n. AreSteps (arities_of a) n steps.items) h.generators (subst (λ zs. AreSteps zs steps.gens steps.items) ks h.steps) in
    law a gens steps.items target width table wide admitted one given h.value

pub absent_flawless : (a : FiniteAlgebra) (width b : ℕ) (gens : List Vector) (target : Vector) (rows : List Row) → MemberLaw → NotMemberIsFlawless
    → IsAlgebraTable a → IsWidth width → AllByRecursion (IsVector (power a width)) gens → IsVector (power a width) target
    → IsClosedListing (power a width) gens b rows → ¬ Contains (vectors_of rows) target
    → not_member_flaw a gens (vectors_of rows) target width ≡ None
absent_flawless a width b gens target rows law absent table wide admitted one closed lacks = absent a gens rows target width (closed_power a width b gens rows law table wide admitted closed) one lacks

-- ---- conditions

-- what is not too wide is no wider than a power may be
pub narrow : (p : Product) (gens : List Vector) (b : ℕ) → 1 ≤ b → ¬ IsWide p gens b → length p ≤ WIDTH
narrow p gens b some h = ⊎_elim (λ over. absurd (h (inr over))) (λ within. (let more = mul-le-mul_right (length p) some in omega (arith, within, more))) (cases_lt CELLS (b * length p))

-- the conditions with names are conditions
pub record NamedConditions : Type 0 where
  pub maltsev_is : IsCondition maltsev
  pub majority_is : IsCondition majority
  pub minority_is : IsCondition minority
  pub pixley_is : IsCondition pixley
  pub near_unanimity_is : (k : ℕ) → 1 ≤ k → k ≤ PLACES → IsCondition (near_unanimity k)

condition_is : NamedConditions → (name : CondName) (k : ℕ) → has_places name k ≡ true → IsCondition (condition_of name k)
condition_is n Maltsev k h = n.maltsev_is
condition_is n Majority k h = n.majority_is
condition_is n Minority k h = n.minority_is
condition_is n Pixley k h = n.pixley_is
condition_is n Nu k h = n.near_unanimity_is k (low k h) (high k h)
  where
    low : (j : ℕ) → (nat_le 3 j && nat_le j PLACES) ≡ true → 1 ≤ j
    low j e = grind (arith, nat_tests)

    high : (j : ℕ) → (nat_le 3 j && nat_le j PLACES) ≡ true → j ≤ PLACES
    high j e = grind (arith, nat_tests)

abbrev pub WideLaw : Type 0
WideLaw = (a : FiniteAlgebra) (ps : List VariablePattern) → 0 < a.size → 0 < length ps → 0 < length (patterns.pattern_power a ps)

abbrev pub ArgumentLaw : Type 0
ArgumentLaw = (a : FiniteAlgebra) (c : TermCondition) → IsCondition c → AreVectorsOf (condition_power a c) (argument_vectors a c)

-- a power of so many coordinates as a power has is that power
again : (a : FiniteAlgebra) (n : ℕ) → power a (length (replicate n a)) ≡ replicate n a
again a n = ap (λ m. replicate m a) (length-replicate n a)

-- the rows of a closed listing on patterns, as those of a power
pub record AreRowsOf (a : FiniteAlgebra) (n : ℕ) (gens : List Vector) (rows : List Row) : Type 0 where
  pub increasing : IsIncreasing (vectors_of rows)
  pub vectors : AllByRecursion (IsVector (power a (length (replicate n a)))) (vectors_of rows)
  pub exact : AreExact a (length (replicate n a)) gens (vectors_of rows)

rows_of : (a : FiniteAlgebra) (n b : ℕ) (gens : List Vector) (rows : List Row) → MemberLaw → IsAlgebra a → 0 < n → AllByRecursion (IsVector (replicate n a)) gens → IsClosedListing (replicate n a) gens b rows → AreRowsOf a n gens rows
rows_of a n b gens rows law algebra some admitted closed = record {
  increasing = closed.listing.increasing;
  vectors =
      subst (λ p. AllByRecursion (IsVector p) (vectors_of rows)) (sym (again a n))
      (all_from_contains (IsVector (replicate n a)) (vectors_of rows)
      (λ v c. law (replicate n a) gens v (power_product a n algebra some) admitted ((closed.exact v).0 c)));
  exact = record {
    generated = λ v c. subst (λ p. Sg p gens v) (sym (again a n)) ((closed.exact v).0 c);
    all = λ v s. (closed.exact v).1 (subst (λ p. Sg p gens v) (again a n) s);
  };
}

module _ (a : FiniteAlgebra) (name : CondName) (k b w : ℕ) (table : IsAlgebraTable a) (some : 1 ≤ b) (places : has_places name k ≡ true) (named : NamedConditions) (wide : WideLaw) where
  some_width : 0 < length (all_fillings a.size (patterns_of (condition_of name k)))
  some_width =
      let is = condition_is named name k places in
      let one = is.identity in
      let long = length-map (condition_of name k).identities (λ (i : TermIdentity). i.pattern) in
      let low = wide a (patterns_of (condition_of name k)) table.algebra.inhabited (omega (arith, one, long)) in
      let count = length-replicate (length (all_fillings a.size (patterns_of (condition_of name k)))) a in
      omega (arith, low, count)

  pub term_flawless : (steps : StepList) → TermIsFlawless → MayDecide a (condition_of name k) b w (Ok (answers.Yes steps)) → condition_flaw a name k (written_steps a steps.items) ≡ None
  term_flawless steps law may =
      let not_wide = may.0.0 in
      let tells = may.0.1 in
      let writes = may.1 in
      let ks : steps.arities ≡ arities_of a = tells.arities_are ∙ arities_of_power a (length (all_fillings a.size (patterns_of (condition_of name k)))) some_width in
      let gens : steps.gens ≡ k = tells.generators ∙ length-map-range_with_len (place_vector (all_fillings a.size (patterns_of (condition_of name k)))) 0 (condition_of name k).arity ∙ arity_is name k places in
      let given : AreSteps (arities_of a) k steps.items = subst (λ n. AreSteps (arities_of a) n steps.items) gens (subst (λ zs. AreSteps zs steps.gens steps.items) ks tells.steps) in
      let term : written_term (arities_of a) steps.items ≡ writes.term = ap (λ zs. written_term zs steps.items) (sym ks) ∙ get_or_from_slice_get (unfolded steps.arities steps.items) (length steps.items - 1) writes.term _ writes.last in
      law a name k steps.items table places
      (narrow (condition_power a (condition_of name k)) (argument_vectors a (condition_of name k)) b some not_wide)
      (nonempty steps.arities steps.items writes.term writes.last) given (subst (λ t. Meets a t (condition_of name k)) (sym term) writes.meets)
    where
      nonempty : (zs : List ℕ) (items : List Origin) (t : Tree) → slice_get (unfolded zs items) (length items - 1) ≡ Some t → 0 < length items
      nonempty zs [] t e = cc
      nonempty zs (o ∷ os) t e = omega arith

  pub no_term_flawless : (rows : List Row) → NoTermIsFlawless → MemberLaw → ArgumentLaw → MayDecide a (condition_of name k) b w (Ok (answers.No rows)) → no_condition_flaw a name k (vectors_of rows) ≡ None
  no_term_flawless rows law members arguments may =
      let r =
      rows_of a (length (all_fillings a.size (patterns_of (condition_of name k)))) b (argument_vectors a (condition_of name k)) rows members
      table.algebra some_width (arguments a (condition_of name k) (condition_is named name k places)) may.0.1.0 in
      law a name k (vectors_of rows) places (narrow (condition_power a (condition_of name k)) (argument_vectors a (condition_of name k)) b some may.0.0) r.increasing r.vectors r.exact may.0.1.1

-- ---- chains

abbrev pub PlaceLaw : Type 0
PlaceLaw =
    (a : FiniteAlgebra) (ps : List VariablePattern) (places : ℕ) → AllByRecursion IsPattern ps
    → patterns.FillPlaces places ps
    → AreVectorsOf (patterns.pattern_power a ps) (generators a ps places)

-- the steps of each term
abbrev pub items_of : List StepList → List (List Origin)
items_of terms = map (λ (s : StepList). s.items) terms

terms_are : (a : FiniteAlgebra) (kind : ChainKind) (terms : List StepList) → AllByRecursion (AreTermSteps a kind) terms → map (written_term (arities_of a)) (items_of terms) ≡ map term_of terms
terms_are a kind [] h = refl
terms_are a kind (s ∷ terms) h =
    let here : written_term (arities_of a) s.items ≡ term_of s = ap (λ ks. written_term ks s.items) (sym h.0.arities_are) in
    let rest = terms_are a kind terms h.1 in
    λ i. here i ∷ rest i

some_items : (a : FiniteAlgebra) (kind : ChainKind) (terms : List StepList) → AllByRecursion (AreTermSteps a kind) terms → AllByRecursion (λ (steps : List Origin). 0 < length steps) (items_of terms)
some_items a kind [] h = tt
some_items a kind (s ∷ terms) h = (h.0.some, some_items a kind terms h.1)

steps_given : (a : FiniteAlgebra) (kind : ChainKind) (terms : List StepList) → AllByRecursion (AreTermSteps a kind) terms → AllByRecursion (AreSteps (arities_of a) kind.places) (items_of terms)
steps_given a kind [] h = tt
steps_given a kind (s ∷ terms) h =
    (subst (λ n. AreSteps (arities_of a) n s.items) h.0.places_are (subst (λ ks. AreSteps ks s.gens s.items) h.0.arities_are h.0.steps), steps_given a kind terms h.1)

written_twice : (a : FiniteAlgebra) (terms : List StepList) → map (λ (s : StepList). written_steps a s.items) terms ≡ map (written_steps a) (items_of terms)
written_twice a [] = refl
written_twice a (s ∷ terms) = let rest = written_twice a terms in λ i. written_steps a s.items ∷ rest i

pattern_fits : (i j k : ℕ) → i < 2 → j < 2 → k < 2 → IsPattern (over_two (i ∷ j ∷ k ∷ []))
pattern_fits i j k p q r = record { few = omega arith; named = (p, (q, (r, tt))) }

patterns_fit : (name : ChainName) → AllByRecursion IsPattern (kind_of name).patterns
patterns_fit Jonsson = (pattern_fits 0 1 0 (omega arith) (omega arith) (omega arith), (pattern_fits 0 0 1 (omega arith) (omega arith) (omega arith), (pattern_fits 0 1 1 (omega arith) (omega arith) (omega arith), tt)))
patterns_fit Hm = (pattern_fits 0 0 1 (omega arith) (omega arith) (omega arith), (pattern_fits 0 1 1 (omega arith) (omega arith) (omega arith), tt))

patterns_long : (name : ChainName) → patterns.FillPlaces (kind_of name).places (kind_of name).patterns
patterns_long Jonsson = (refl, (refl, (refl, tt)))
patterns_long Hm = (refl, (refl, tt))

some_patterns : (name : ChainName) → 0 < length (kind_of name).patterns
some_patterns Jonsson = omega arith
some_patterns Hm = omega arith

module _ (a : FiniteAlgebra) (name : ChainName) (b w : ℕ) (table : IsAlgebraTable a) (some : 1 ≤ b) where
  pub chain_flawless : (terms : Vec StepList Global) → ChainTermsAreFlawless → MayChain a (kind_of name) b w (Ok (chains.Yes terms)) → chain_flaw a name (map (λ (s : StepList). written_steps a s.items) terms.items) ≡ None
  chain_flawless terms law may =
      let h = may.1.0 in
      subst (λ ts. chain_flaw a name ts ≡ None) (sym (written_twice a terms.items))
      (law a name (items_of terms.items) table (narrow (power_of a (kind_of name)) (generators_of a (kind_of name)) b some may.0) (some_items a (kind_of name) terms.items h.each) (steps_given a (kind_of name) terms.items h.each)
      (subst (IsChain a (kind_of name)) (sym (terms_are a (kind_of name) terms.items h.each)) h.least.chain))

  pub no_chain_flawless : (rows : List Row) (even odd : Vec ℕ Global) → NoChainIsFlawless → MemberLaw → WideLaw → PlaceLaw
      → MayChain a (kind_of name) b w (Ok (chains.No rows even odd)) → no_chain_flaw a name (vectors_of rows) even.items odd.items ≡ None
  no_chain_flawless rows even odd law members wide places may =
      let h = may.1 in
      let n : ℕ = length (all_fillings a.size (kind_of name).patterns) in
      let low : 0 < n = (let l = wide a (kind_of name).patterns table.algebra.inhabited (some_patterns name) in let count = length-replicate (length (all_fillings a.size (kind_of name).patterns)) a in omega (arith, l, count)) in
      let r =
      rows_of a (length (all_fillings a.size (kind_of name).patterns)) b (generators_of a (kind_of name)) rows members table.algebra low
      (places a (kind_of name).patterns (kind_of name).places (patterns_fit name) (patterns_long name)) h.closed in
      law a name (vectors_of rows) even.items odd.items table.algebra.inhabited (narrow (power_of a (kind_of name)) (generators_of a (kind_of name)) b some may.0) r.increasing r.vectors r.exact h.evens h.odds h.none
