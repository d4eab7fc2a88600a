-- A certificate of a chain without a flaw says what it says.
use Rattle.std.proofs.Common.{◌≡◌, ℕ, suc, ◌+◌, ◌<◌, ◌≤◌, Bool, true, false, ◌&&◌, ◌||◌, not, cond, Some, None, List, [], ◌∷◌, length, map, refl, sym, ap, ◌∙◌, subst, arith}
use Rattle.std.specs.Prelude.{slice_get, slice_index_or, nat_lt, ◌==◌, ◌%◌}
use Rattle.std.specs.List.{AllByRecursion, list_any, enumerate_from}
use Rattle.std.proofs.lemmas.Bool.Decides.{nat_tests}
use Rattle.std.proofs.lemmas.List.{length-map, length-replicate}
use Rattle.std.proofs.lemmas.Bool.{or_parts}
use Rattle.std.proofs.lemmas.Option.{slice_get_within, get_or_from_slice_get}
use Rattle.std.proofs.lemmas.Simd.{map-map}
use Rattle.ua_table.specs.declared.limits.TheConstants.{WIDTH}
use Rattle.ua_table.specs.Algebras.{FiniteAlgebra, arities_of}
use Rattle.ua_table.specs.declared.origins.Origin.{Origin}
use Rattle.ua_table.specs.Terms.{Tree, IsTerm}
use Rattle.ua_table.specs.Refusals.{refusal_if, first_refusal}
use Rattle.ua_table.proofs.Lists.{all_from_places}
use Rattle.ua_table.proofs.RefusalLaws.{passed}
use Rattle.ua_table.specs.Sequences.{Alternates, BeginsWith, EndsWith}
use Rattle.ua_term.specs.Steps.{written_term}
use Rattle.ua_identity.specs.Chains.{ChainKind, AreLinked, IsOwn, IsPlace, IsChain}
use Rattle.ua_identity.specs.Patterns.{all_fillings}
use Rattle.ua_cert.specs.declared.certs.CertStep.{CertStep}
use Rattle.ua_cert.specs.declared.certs.ChainName.{ChainName}
use Rattle.ua_cert.specs.declared.certs.ChainName.TheVariants.{Jonsson, Hm}
use Rattle.ua_flaws.specs.declared.flaws.Flaw.TheVariants as flaw
use Rattle.ua_flaws.specs.Firsts.{first_bad}
use Rattle.ua_flaws.specs.Steps.{origin_of, origins_of, last_term}
use Rattle.ua_flaws.specs.Flaws.{steps_flaw}
use Rattle.ua_flaws.specs.Laws.{StepsAreSteps, LastIsTerm}
use Rattle.ua_check.specs.Chains.{kind_of, chain_width, WritesChain, place_identity, satisfies, satisfies_all, is_fit, link_at, are_linked, is_in_chain, links_flaw, term_flaw, terms_flaw, is_without_term, chain_lines, chain_flaw}
use Rattle.ua_check.specs.inner.Chains.{AreStepsWithin}
use Rattle.ua_flaws.proofs.FirstLaws.{both, some_length, refusal_none, option_none, first_none, none_of, alone, each_good}
use Rattle.ua_check.proofs.SatisfyLaws.{satisfied_all, linked, place}

-- ---- lists by their places

ends_at : {X : Type 0} (P : X → Type 0) (xs : List X) → 0 < length xs → ((i : ℕ) (x : X) → slice_get xs i ≡ Some x → i + 1 ≡ length xs → P x) → EndsWith P xs
ends_at P [] some h = absurd (omega (arith, some))
ends_at P (x ∷ []) some h = h 0 x refl refl
ends_at P (x ∷ y ∷ rest) some h = ends_at P (y ∷ rest) (omega arith) (λ i z at e. h (suc i) z at (omega (arith, e)))

-- how an element is linked to the next, by the parity of its index
pub record IsLinked {X : Type 0} (E O : X → X → Type 0) (i : ℕ) (x y : X) : Type 0 where
  pub even : i % 2 ≡ 0 → E x y
  pub odd : i % 2 ≡ 1 → O x y

alternate : {X : Type 0} (E O : X → X → Type 0) (xs : List X) → ((i : ℕ) (x y : X) → slice_get xs i ≡ Some x → slice_get xs (suc i) ≡ Some y → IsLinked E O i x y) → Alternates E O xs
alternate E O [] h = tt
alternate E O (x ∷ []) h = tt
alternate E O (x ∷ y ∷ rest) h = (
  (h 0 x y refl refl).even refl,
  alternate O E (y ∷ rest) (λ i v w at next. (let f = h (suc i) v w at next in record { even = λ z. f.odd (omega (arith, z)); odd = λ z. f.even (omega (arith, z)) })),
)

-- ---- terms in a chain

module _ (a : FiniteAlgebra) (kind : ChainKind) (terms : List Tree) (good : (i : ℕ) (t : Tree) → slice_get terms i ≡ Some t → is_in_chain a kind terms i t ≡ true) where
  apart : (m n : ℕ) → m < n → (m == n) ≡ false
  apart m n l = grind (arith, nat_tests)

  same : (m n : ℕ) → m ≡ n → (m == n) ≡ true
  same m n l = grind (arith, nat_tests)

  -- a test behind another that fails
  other : (b c : Bool) → (b || c) ≡ true → b ≡ false → c ≡ true
  other false c e f = e
  other true c e f = cc

  not_same : (m n : ℕ) → m ≡ n → not (m == n) ≡ false
  not_same m n e = ap not (same m n e)

  -- the parts of the test of a term
  record IsFit (i : ℕ) (t : Tree) : Type 0 where
    own : satisfies_all a kind.own t ≡ true
    first : i ≡ 0 → satisfies a (place_identity kind.places 0) t ≡ true
    last : i + 1 ≡ length terms → satisfies a (place_identity kind.places kind.end) t ≡ true
    link : i + 1 < length terms → are_linked a (link_at kind i) t (slice_index_or terms (i + 1) t) ≡ true

  fit : (i : ℕ) (t : Tree) → slice_get terms i ≡ Some t → IsFit i t
  fit i t at =
      let h = both (is_fit a kind (length terms) i t) ((i + 1 == length terms) || are_linked a (link_at kind i) t (slice_index_or terms (i + 1) t)) (good i t at) in
      let f = both (satisfies_all a kind.own t) ((not (i == 0) || satisfies a (place_identity kind.places 0) t) && (not (i + 1 == length terms) || satisfies a (place_identity kind.places kind.end) t)) h.0 in
      let g = both (not (i == 0) || satisfies a (place_identity kind.places 0) t) (not (i + 1 == length terms) || satisfies a (place_identity kind.places kind.end) t) f.1 in
      record {
        own = f.0;
        first = λ e. other (not (i == 0)) (satisfies a (place_identity kind.places 0) t) g.0 (not_same i 0 e);
        last = λ e. other (not (i + 1 == length terms)) (satisfies a (place_identity kind.places kind.end) t) g.1 (not_same (i + 1) (length terms) e);
        link = λ l. other (i + 1 == length terms) (are_linked a (link_at kind i) t (slice_index_or terms (i + 1) t)) h.1 (apart (i + 1) (length terms) l);
      }

  even_link : (i : ℕ) → i % 2 ≡ 0 → link_at kind i ≡ kind.even
  even_link i e = ap (λ b. cond b kind.even kind.odd) (same (i % 2) 0 e)

  odd_link : (i : ℕ) → i % 2 ≡ 1 → link_at kind i ≡ kind.odd
  odd_link i e = ap (λ b. cond b kind.even kind.odd) (differs (i % 2) e)
    where
      differs : (m : ℕ) → m ≡ 1 → (m == 0) ≡ false
      differs m d = grind (arith, nat_tests)

  link_from : (i : ℕ) (x y : Tree) → slice_get terms i ≡ Some x → slice_get terms (suc i) ≡ Some y → AreLinked a (link_at kind i) x y
  link_from i x y at next =
      let one : suc i ≡ i + 1 = omega arith in
      let within : i + 1 < length terms = (let l = slice_get_within terms (suc i) y next in omega (arith, l)) in
      let is : slice_index_or terms (i + 1) x ≡ y = ap (λ k. slice_index_or terms k x) (sym one) ∙ get_or_from_slice_get terms (suc i) y x next in
      linked a (link_at kind i) x y (subst (λ z. are_linked a (link_at kind i) x z ≡ true) is ((fit i x at).link within))

  begins : (xs : List Tree) → terms ≡ xs → 0 < length xs → BeginsWith (IsPlace a kind.places 0) xs
  begins [] e some = absurd (omega (arith, some))
  begins (t ∷ ts) e some = place a kind.places 0 t ((fit 0 t (ap (λ (us : List Tree). slice_get us 0) e)).first refl)

  pub are_chain : 0 < length terms → AllByRecursion (IsTerm (arities_of a) kind.places) terms → IsChain a kind terms
  are_chain some are = record {
    beginning = record {
      terms_are = are;
      first = begins terms refl some;
      own = all_from_places (IsOwn a kind) terms (λ i t at. satisfied_all a t kind.own (fit i t at).own);
      linked = alternate (AreLinked a kind.even) (AreLinked a kind.odd) terms (λ i x y at next. record {
        even = λ e. subst (λ l. AreLinked a l x y) (even_link i e) (link_from i x y at next);
        odd = λ e. subst (λ l. AreLinked a l x y) (odd_link i e) (link_from i x y at next);
      });
    };
    last = ends_at (IsPlace a kind.places kind.end) terms some (λ i t at e. place a kind.places kind.end t ((fit i t at).last e));
  }

-- ---- their steps

written_all : LastIsTerm → (a : FiniteAlgebra) (places n : ℕ) (terms : List (List CertStep)) → list_any (λ (steps : List CertStep). length steps == 0) terms ≡ false → first_refusal (map (term_flaw a places) (enumerate_from n terms)) ≡ None
    → AllByRecursion (IsTerm (arities_of a) places) (map (last_term a) terms)
written_all term a places n [] some none = tt
written_all term a places n (steps ∷ terms) some none =
    let s = or_parts (length steps == 0) (list_any (λ (steps : List CertStep). length steps == 0) terms) some in
    let h = first_none (steps_flaw a places (Some n) steps) (map (term_flaw a places) (enumerate_from (n + 1) terms)) none in
    (term a places (Some n) steps (some_length (length steps) s.0) h.0, written_all term a places (n + 1) terms s.1 h.1)

-- steps without a flaw, of which there are some, and at most so many
terms_written : StepsAreSteps → (a : FiniteAlgebra) (most n : ℕ) (terms : List (List CertStep))
    → list_any (λ (steps : List CertStep). length steps == 0) terms ≡ false → AllByRecursion (λ (steps : List CertStep). length steps ≤ most) terms
    → first_refusal (map (term_flaw a 3) (enumerate_from n terms)) ≡ None
    → AllByRecursion (AreStepsWithin a most) (map (origins_of a) terms)
terms_written are a most n [] some few none = tt
terms_written are a most n (steps ∷ terms) some few none =
    let s = or_parts (length steps == 0) (list_any (λ (steps : List CertStep). length steps == 0) terms) some in
    let h = first_none (steps_flaw a 3 (Some n) steps) (map (term_flaw a 3) (enumerate_from (n + 1) terms)) none in
    let long = some_length (length steps) s.0 in
    let count = length-map steps (origin_of a) in
    let low = few.0 in
    (record { some = omega (arith, long, count); few = omega (arith, low, count); steps = are a 3 (Some n) steps h.0 }, terms_written are a most (n + 1) terms s.1 few.1 h.1)

pub are_term_steps : StepsAreSteps → (a : FiniteAlgebra) (most : ℕ) (terms : List (List CertStep)) → is_without_term terms ≡ false
    → AllByRecursion (λ (steps : List CertStep). length steps ≤ most) terms → terms_flaw a 3 terms ≡ None
    → AllByRecursion (AreStepsWithin a most) (map (origins_of a) terms)
are_term_steps are a most terms some few none = terms_written are a most 0 terms (or_parts (length terms == 0) (list_any (λ (steps : List CertStep). length steps == 0) terms) some).1 few none

pub three_places : (name : ChainName) → (kind_of name).places ≡ 3
three_places Jonsson = refl
three_places Hm = refl

-- the vectors of the terms are not too wide
pub chain_narrow : (a : FiniteAlgebra) (kind : ChainKind) (w : ℕ) → w ≤ WIDTH → w ≡ length (all_fillings a.size kind.patterns) → nat_lt WIDTH (chain_width a kind) ≡ false
chain_narrow a kind w low e = below (chain_width a kind) (length-replicate (length (all_fillings a.size kind.patterns)) a ∙ sym e)
  where
    below : (n : ℕ) → n ≡ w → nat_lt WIDTH n ≡ false
    below n same = grind (arith, nat_tests)

-- what is left where the terms have steps
pub chain_told : (a : FiniteAlgebra) (kind : ChainKind) (terms : List (List CertStep)) (list : List (List Origin)) → kind.places ≡ 3
    → (nat_lt WIDTH (chain_width a kind) || is_without_term terms) ≡ false → terms_flaw a 3 terms ≡ None → list ≡ map (origins_of a) terms
    → links_flaw a kind (map (written_term (arities_of a)) list) ≡ first_refusal (chain_lines a kind terms)
chain_told a kind terms list three fits fine read =
    let trees : map (written_term (arities_of a)) list ≡ map (last_term a) terms = ap (map (written_term (arities_of a))) read ∙ map-map (written_term (arities_of a)) (origins_of a) terms in
    let steps : terms_flaw a kind.places terms ≡ None = ap (λ n. terms_flaw a n terms) three ∙ fine in
    let links = links_flaw a kind (map (last_term a) terms) in
    ap (links_flaw a kind) trees
    ∙ alone links
    ∙ sym (passed _ (links ∷ []) steps)
    ∙ sym (passed _ (terms_flaw a kind.places terms ∷ links ∷ []) (ap (λ b. refusal_if b flaw.Width) fits))

pub chain_holds : LastIsTerm → (a : FiniteAlgebra) (name : ChainName) (terms : List (List CertStep)) → chain_flaw a name terms ≡ None → WritesChain a name terms
chain_holds term a name terms none =
    let kind = kind_of name in
    let trees = map (last_term a) terms in
    let l = none_of (chain_lines a (kind_of name) terms) none in
    let shape = or_parts (nat_lt WIDTH (chain_width a (kind_of name))) (is_without_term terms) (refusal_none (nat_lt WIDTH (chain_width a (kind_of name)) || is_without_term terms) flaw.Width l.0) in
    let some = or_parts (length terms == 0) (list_any (λ (steps : List CertStep). length steps == 0) terms) shape.1 in
    let long = some_length (length terms) some.0 in
    let count = length-map terms (last_term a) in
    let good =
    λ (i : ℕ) (t : Tree) (at : slice_get trees i ≡ Some t).
    (let z : 0 + i ≡ i = omega arith in
    ap (λ k. is_in_chain a kind trees k t) (sym z)
    ∙ each_good (is_in_chain a kind trees) 0 trees (option_none flaw.Link (first_bad (is_in_chain a kind trees) 0 trees) l.1.1.0) i t at) in
    are_chain a kind trees good (omega (arith, long, count)) (written_all term a kind.places 0 terms some.1 l.1.0)
