-- The positions of rows that beginnings of chains reach, and how a beginning goes on by one term more.
use Rattle.std.proofs.Common.{◌≡◌, ℕ, zero, suc, ◌+◌, ◌<◌, Bool, true, false, not, ◌||◌, Some, None, List, [], ◌∷◌, ◌++◌, length, ⊎_elim, refl, sym, ap, ◌∙◌, subst, arith}
use Rattle.std.specs.Prelude.{Contains, slice_get, slice_index, ◌==◌, nat_lt}
use Rattle.std.specs.List.{AllByRecursion, list_any}
use Rattle.std.proofs.lemmas.Bool.Decides.{nat_tests}
use Rattle.std.proofs.lemmas.Bool.{and_from}
use Rattle.std.proofs.lemmas.Option.{slice_get_within, get_or_from_slice_get}
use Rattle.ua_table.specs.Algebras.{Vector, FiniteAlgebra, arities_of}
use Rattle.ua_table.specs.Terms.{Tree, Generator, IsTerm, eval}
use Rattle.ua_table.proofs.Lists.{found, Contains-head, Contains-tail, Contains-cases, Contains-none, All-slice_get, all_append}
use Rattle.ua_table.proofs.RefusalLaws.{refusal_if-false}
use Rattle.ua_table.specs.Sequences.{Alternates, BeginsWith, EndsWith, ends_even}
use Rattle.ua_identity.specs.Identities.{xxy, xyx, xyy}
use Rattle.ua_identity.specs.Chains.{AreLinked, IsOwn, IsPlace, is_among_even, IsReached, AreReached}
use Rattle.ua_identity.specs.Patterns.{vector_of}
use Rattle.ua_identity.proofs.PatternLaws.{part_is, linked_from_parts, satisfied_from_part}
use Rattle.ua_cert.specs.declared.certs.ChainName.{ChainName}
use Rattle.ua_cert.specs.declared.certs.ChainName.TheVariants.{Jonsson, Hm}
use Rattle.ua_flaws.specs.declared.flaws.Flaw.TheVariants as flaw
use Rattle.ua_flaws.specs.Firsts.{first_bad}
use Rattle.ua_check.specs.Chains.{kind_of}
use Rattle.ua_check.specs.Reached.{leads, is_own_row, holds_position, is_position, positions_flaw, parity_flaw, place_of}
use Rattle.ua_flaws.proofs.FirstLaws.{same_is, both}
use Rattle.ua_flaws.proofs.PassLaws.{is_below, no_option, none_bad}
use Rattle.ua_identity.proofs.ChainLaws.{first_is_own}
use Rattle.ua_check.proofs.ReachedLaws.{is_kind}
use Rattle.ua_check.proofs.NoChainLaws.{vec, even_leads, odd_leads, start_is}

-- ---- positions

pub is_held : (ps : List ℕ) (i : ℕ) → Contains ps i → holds_position ps i ≡ true
is_held [] i c = absurd (Contains-none i c)
is_held (p ∷ ps) i c = cases (p == i) refl (λ rest. is_held ps i rest)
  where
    equal : p ≡ i → (p == i) ≡ false → ⊥
    equal e f = grind (arith, nat_tests, e)

    cases : (b : Bool) → (p == i) ≡ b → (Contains ps i → holds_position ps i ≡ true) → (b || holds_position ps i) ≡ true
    cases true e held = refl
    cases false e held = held (⊎_elim (λ same. absurd (equal same e)) (λ rest. rest) (Contains-cases p i ps c))

pub held_is : (ps : List ℕ) (i : ℕ) → holds_position ps i ≡ true → Contains ps i
held_is [] i h = cc
held_is (p ∷ ps) i h =
    elim (p == i) as (λ b. (p == i) ≡ b → (b || holds_position ps i) ≡ true → Contains (p ∷ ps) i) [
      | true ↦ λ e k. (let same : p ≡ i = (grind (arith, nat_tests)) in subst (λ z. Contains (p ∷ ps) z) same (Contains-head p ps))
      | false ↦ λ e k. Contains-tail p i ps (held_is ps i k)
    ] refl h

position_fine : (n : ℕ) (ps : List ℕ) → ((j k : ℕ) → j < k → k < length ps → slice_index ps j < slice_index ps k) → AllByRecursion (λ i. i < n) ps → (i p : ℕ) → slice_get ps i ≡ Some p → is_position n ps i p ≡ true
position_fine n ps up low zero p at = is_below p n (All-slice_get (λ x. x < n) ps 0 p low at)
position_fine n ps up low (suc i) p at =
    let next : slice_index ps (suc i) ≡ p = get_or_from_slice_get ps (suc i) p 0 at in
    let step = up i (suc i) (omega arith) (slice_get_within ps (suc i) p at) in
    and_from (nat_lt p n) (nat_lt (slice_index ps i) p) (is_below p n (All-slice_get (λ x. x < n) ps (suc i) p low at)) (is_below (slice_index ps i) p (subst (λ z. slice_index ps i < z) next step))

pub no_position_flaw : (a : FiniteAlgebra) (name : ChainName) (even : Bool) (rows : List Vector) (ps : List ℕ) → AreReached a (kind_of name) even rows ps → positions_flaw (length rows) ps ≡ None
no_position_flaw a name even rows ps h =
    no_option (λ i. flaw.Reached (slice_index ps i)) (first_bad (is_position (length rows) ps) 0 ps)
    (none_bad (is_position (length rows) ps) 0 ps (λ i p at. (let z : 0 + i ≡ i = omega arith in ap (λ k. is_position (length rows) ps k p) z ∙ position_fine (length rows) ps h.ascending h.within i p at)))

-- where all are told among the even ones, none is told at odd indices
pub no_odd : (a : FiniteAlgebra) (rows : List Vector) (odd : List ℕ) → AreReached a (kind_of Hm) false rows odd → (length odd == 0) ≡ true
no_odd a rows [] h = refl
no_odd a rows (p ∷ ps) h =
    let v = found rows p h.within.0 in
    let r = (h.exact p v.0 v.1).0 (Contains-head p ps) in
    absurd (never (ends_even r.terms) r.parity)
  where
    never : (b : Bool) → (b || true) ≡ false → ⊥
    never true e = cc
    never false e = cc

pub no_parity_flaw : (a : FiniteAlgebra) (name : ChainName) (rows : List Vector) (odd : List ℕ) → AreReached a (kind_of name) false rows odd → parity_flaw (kind_of name) odd ≡ None
no_parity_flaw a Jonsson rows odd h = refl
no_parity_flaw a Hm rows odd h = refusal_if-false (not (length odd == 0)) (flaw.Reached (slice_index odd 0)) (ap not (no_odd a rows odd h))

-- ---- one term more

last_vector : {X : Type 0} (P : X → Type 0) (xs : List X) (x : X) → P x → EndsWith P (xs ++ x ∷ [])
last_vector P [] x h = h
last_vector P (y ∷ []) x h = h
last_vector P (y ∷ z ∷ zs) x h = last_vector P (z ∷ zs) x h

begins_still : {X : Type 0} (P : X → Type 0) (xs ys : List X) → BeginsWith P xs → BeginsWith P (xs ++ ys)
begins_still {X = X} P [] ys h = elim h [ ]
begins_still P (x ∷ xs) ys h = h

pub ends_other : {X : Type 0} (xs : List X) (x : X) → ends_even (xs ++ x ∷ []) ≡ not (ends_even xs)
ends_other [] x = refl
ends_other (y ∷ ys) x = ap not (ends_other ys x)

-- the last of the list is linked to one more: by the first link where it stands at an even index
link_more : {X : Type 0} (E O : X → X → Type 0) (L : X → Type 0) (xs : List X) (x : X) → Alternates E O xs → EndsWith L xs
    → (ends_even xs ≡ true → (d : X) → L d → E d x) → (ends_even xs ≡ false → (d : X) → L d → O d x) → Alternates E O (xs ++ x ∷ [])
link_more E O L [] x h l e o = absurd l
link_more E O L (d ∷ []) x h l e o = (e refl d l, tt)
link_more E O L (c ∷ d ∷ rest) x h l e o = (h.0, link_more O E L (d ∷ rest) x h.1 l (λ k. o (ap not k)) (λ k. e (ap not k)))

module _ (a : FiniteAlgebra) (name : ChainName) where
  -- a beginning goes on to a term that is linked to its last
  pub goes_on : (even : Bool) (v : Vector) (e : Tree) → (r : IsReached a (kind_of name) even v) → IsTerm (arities_of a) (kind_of name).places e
      → IsOwn a (kind_of name) e → (ends_even r.terms ≡ true → (d : Tree) → vec a name d ≡ v → AreLinked a (kind_of name).even d e)
      → (ends_even r.terms ≡ false → (d : Tree) → vec a name d ≡ v → AreLinked a (kind_of name).odd d e)
      → IsReached a (kind_of name) (is_among_even (kind_of name) (r.terms ++ e ∷ [])) (vec a name e)
  unfolding vec
  goes_on even v e r is_term own over back = record {
    terms = r.terms ++ e ∷ [];
    beginning = record {
      terms_are = all_append (IsTerm (arities_of a) (kind_of name).places) r.terms (e ∷ []) r.beginning.terms_are (is_term, tt);
      first = begins_still (IsPlace a (kind_of name).places 0) r.terms (e ∷ []) r.beginning.first;
      own = all_append (IsOwn a (kind_of name)) r.terms (e ∷ []) r.beginning.own (own, tt);
      linked = link_more (AreLinked a (kind_of name).even) (AreLinked a (kind_of name).odd) (λ t. vector_of a (kind_of name).patterns t ≡ v) r.terms e r.beginning.linked r.reaches over back;
    };
    parity = refl;
    reaches = last_vector (λ t. vector_of a (kind_of name).patterns t ≡ vector_of a (kind_of name).patterns e) r.terms e refl;
  }

-- ---- rows by their parts

pub linked_even : (a : FiniteAlgebra) (name : ChainName) (d e : Tree) → leads a.size (kind_of name) (kind_of name).even (vec a name d) (vec a name e) ≡ true → AreLinked a (kind_of name).even d e
unfolding vec
linked_even a Jonsson d e h =
    linked_from_parts a (kind_of Jonsson).even d e refl
    (sym (part_is a.size (kind_of Jonsson).patterns 1 xxy (λ xs. eval a xs d) refl) ∙ same_is _ _ h
    ∙ part_is a.size (kind_of Jonsson).patterns 1 xxy (λ xs. eval a xs e) refl)
linked_even a Hm d e h = linked_from_parts a (kind_of Hm).even d e refl (sym (part_is a.size (kind_of Hm).patterns 0 xxy (λ xs. eval a xs d) refl) ∙ same_is _ _ h ∙ part_is a.size (kind_of Hm).patterns 1 xyy (λ xs. eval a xs e) refl)

pub linked_odd : (a : FiniteAlgebra) (name : ChainName) (d e : Tree) → leads a.size (kind_of name) (kind_of name).odd (vec a name d) (vec a name e) ≡ true → AreLinked a (kind_of name).odd d e
unfolding vec
linked_odd a Jonsson d e h =
    linked_from_parts a (kind_of Jonsson).odd d e refl
    (sym (part_is a.size (kind_of Jonsson).patterns 2 xyy (λ xs. eval a xs d) refl) ∙ same_is _ _ h
    ∙ part_is a.size (kind_of Jonsson).patterns 2 xyy (λ xs. eval a xs e) refl)
linked_odd a Hm d e h = linked_from_parts a (kind_of Hm).odd d e refl (sym (part_is a.size (kind_of Hm).patterns 0 xxy (λ xs. eval a xs d) refl) ∙ same_is _ _ h ∙ part_is a.size (kind_of Hm).patterns 1 xyy (λ xs. eval a xs e) refl)

pub leads_even : (a : FiniteAlgebra) (name : ChainName) (d e : Tree) → AreLinked a (kind_of name).even d e → leads a.size (kind_of name) (kind_of name).even (vec a name d) (vec a name e) ≡ true
unfolding vec
leads_even a name d e h = even_leads a name d e h

pub leads_odd : (a : FiniteAlgebra) (name : ChainName) (d e : Tree) → AreLinked a (kind_of name).odd d e → leads a.size (kind_of name) (kind_of name).odd (vec a name d) (vec a name e) ≡ true
unfolding vec
leads_odd a name d e h = odd_leads a name d e h

pub own_term : (a : FiniteAlgebra) (name : ChainName) (t : Tree) → is_own_row a.size (kind_of name) (vec a name t) ≡ true → IsOwn a (kind_of name) t
unfolding vec
own_term a Jonsson t h = (satisfied_from_part a (record { pattern = xyx; value = 0 }) t (sym (part_is a.size (kind_of Jonsson).patterns 0 xyx (λ xs. eval a xs t) refl) ∙ same_is _ _ (both _ true h).0), tt)
own_term a Hm t h = tt

-- some position leads there
pub led_from : (f : ℕ → Bool) (ps : List ℕ) → list_any f ps ≡ true → (p : ℕ) × Contains ps p × (f p ≡ true)
led_from f [] h = cc
led_from f (p ∷ ps) h =
    elim (f p) as (λ b. f p ≡ b → (b || list_any f ps) ≡ true → (q : ℕ) × Contains (p ∷ ps) q × (f q ≡ true)) [
      | true ↦ λ e k. (p, Contains-head p ps, e)
      | false ↦ λ e k. (let r = led_from f ps k in (r.0, Contains-tail p r.0 ps r.1, r.2))
    ] refl h

-- a test that is asked only where another passes
pub where_so : (b c : Bool) → (b ≡ true → c ≡ true) → (not b || c) ≡ true
where_so true c h = h refl
where_so false c h = refl

pub or_not : (b c : Bool) → (c ≡ true → b ≡ true) → (b || not c) ≡ true
or_not b true h = ap (λ z. z || false) (h refl)
or_not true false h = refl
or_not false false h = refl

pub not_held : (b : Bool) → (b ≡ true → ⊥) → not b ≡ true
not_held true h = absurd (h refl)
not_held false h = refl

-- ---- the start

pub start_reached : (a : FiniteAlgebra) (name : ChainName) → IsReached a (kind_of name) true (place_of a (kind_of name) 0)
unfolding vec
start_reached a name =
    let k = is_kind name in
    record {
      terms = Generator 0 ∷ [];
      beginning = record { terms_are = ((let end = k.end in omega arith), tt); first = λ xs h. refl; own = (first_is_own a (kind_of name) k, tt); linked = tt };
      parity = refl;
      reaches = start_is a name (Generator 0) (λ xs h. refl);
    }
