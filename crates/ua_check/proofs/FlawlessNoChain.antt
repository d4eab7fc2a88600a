-- Rows that are closed, with the positions of those that beginnings of chains reach where there is no chain, have no flaw.
use Rattle.std.proofs.Common.{◌≡◌, ℕ, ◌+◌, ◌<◌, ◌≤◌, Bool, true, false, not, ◌&&◌, ◌||◌, Some, None, List, [], ◌∷◌, ◌++◌, length, refl, sym, ap, ◌∙◌, subst, arith}
use Rattle.std.specs.Prelude.{slice_get, slice_index_or, nat_lt, replicate}
use Rattle.std.specs.List.{AllByRecursion}
use Rattle.std.proofs.lemmas.Bool.Decides.{nat_tests}
use Rattle.std.proofs.lemmas.List.{length-replicate}
use Rattle.std.proofs.lemmas.Bool.{and_from}
use Rattle.std.proofs.lemmas.Option.{get_or_from_slice_get}
use Rattle.ua_table.specs.declared.limits.TheConstants.{WIDTH}
use Rattle.ua_table.specs.Algebras.{Vector, FiniteAlgebra, IsVector, arities_of, IsIncreasing, power}
use Rattle.ua_table.specs.Terms.{Tree, Generator, IsTerm}
use Rattle.ua_table.specs.Generated.{Sg}
use Rattle.ua_table.specs.Refusals.{refusal_if}
use Rattle.ua_table.proofs.Lists.{found, Contains-slice_get, all_at}
use Rattle.ua_table.proofs.RefusalLaws.{refusal_if-false}
use Rattle.ua_table.specs.Sequences.{Alternates, EndsWith, ends_even}
use Rattle.ua_identity.specs.Chains.{AreLinked, IsOwn, IsPlace, IsBeginning, IsChain, is_among_even, IsReached, generators_of, AreReached}
use Rattle.ua_identity.specs.Patterns.{all_fillings, vector_of}
use Rattle.ua_cert.specs.declared.certs.ChainName.{ChainName}
use Rattle.ua_cert.specs.declared.certs.ChainName.TheVariants.{Jonsson, Hm}
use Rattle.ua_flaws.specs.declared.flaws.ListName.TheVariants.{Rows}
use Rattle.ua_flaws.specs.declared.flaws.Flaw.TheVariants as flaw
use Rattle.ua_flaws.specs.Firsts.{first_bad, is_same}
use Rattle.ua_flaws.specs.Answers.{AreExact}
use Rattle.ua_flaws.specs.Flaws.{vectors_flaw, closed_flaw}
use Rattle.ua_flaws.specs.Laws.{VectorsAreFlawless, ExactIsFlawless}
use Rattle.ua_check.specs.Chains.{kind_of, chain_width, HasNoChain}
use Rattle.ua_check.specs.Reached.{leads, is_own_row, holds_position, odd_positions, positions_flaw, parity_flaw, is_led_to, is_started, is_followed, is_not_end, place_of, row_flaw, reached_lines, no_chain_lines, no_chain_flaw}
use Rattle.ua_flaws.proofs.FirstLaws.{same_is}
use Rattle.ua_flaws.proofs.PassLaws.{no_line, no_option, none_bad}
use Rattle.ua_check.proofs.NoChainLaws.{vec, end_is}
use Rattle.ua_identity.proofs.KindLaws.{some_fillings}
use Rattle.ua_identity.proofs.ChainLaws.{term_of_member, place_has_vector, ends_at_first, end_is_own}
use Rattle.ua_check.proofs.ReachedLaws.{is_kind}
use Rattle.ua_check.proofs.ReachedRows.{is_held, held_is, no_position_flaw, no_parity_flaw, ends_other, linked_even, linked_odd, leads_even, leads_odd, own_term, led_from, where_so, or_not, not_held, start_reached, goes_on}

-- ---- the end

-- the list with another last element
with_last : {X : Type 0} → X → List X → List X
with_last g [] = []
with_last g (x ∷ []) = g ∷ []
with_last g (x ∷ y ∷ rest) = x ∷ with_last g (y ∷ rest)

all_with_last : {X : Type 0} (P : X → Type 0) (g : X) (xs : List X) → P g → AllByRecursion P xs → AllByRecursion P (with_last g xs)
unfolding with_last
all_with_last P g [] h all = tt
all_with_last P g (x ∷ []) h all = (h, tt)
all_with_last P g (x ∷ y ∷ rest) h all = (all.0, all_with_last P g (y ∷ rest) h all.1)

ends_with_last : {X : Type 0} (P : X → Type 0) (g x : X) (xs : List X) → P g → EndsWith P (with_last g (x ∷ xs))
unfolding with_last
ends_with_last P g x [] h = h
ends_with_last P g x (y ∷ []) h = h
ends_with_last P g x (y ∷ z ∷ rest) h = ends_with_last P g y (z ∷ rest) h

-- what is linked to the last is linked to the other
link_with_last : {X : Type 0} (E O : X → X → Type 0) (L : X → Type 0) (g : X) (xs : List X) → ((d e : X) → L e → E d e → E d g) → ((d e : X) → L e → O d e → O d g) → EndsWith L xs → Alternates E O xs → Alternates E O (with_last g xs)
unfolding with_last
link_with_last E O L g [] over back l h = tt
link_with_last E O L g (x ∷ []) over back l h = tt
link_with_last E O L g (x ∷ y ∷ []) over back l h = (over x y l h.0, tt)
link_with_last E O L g (x ∷ y ∷ z ∷ rest) over back l h = (h.0, link_with_last O E L g (y ∷ z ∷ rest) back over l h.1)

module _ (a : FiniteAlgebra) (name : ChainName) where
  -- a term whose vector is that of the last place, in the place of the last of a beginning
  end_over : (d e : Tree) → vec a name e ≡ vec a name (Generator (kind_of name).end) → AreLinked a (kind_of name).even d e → AreLinked a (kind_of name).even d (Generator (kind_of name).end)
  end_over d e same h = linked_even a name d (Generator (kind_of name).end) (subst (λ v. leads a.size (kind_of name) (kind_of name).even (vec a name d) v ≡ true) same (leads_even a name d e h))

  end_back : (d e : Tree) → vec a name e ≡ vec a name (Generator (kind_of name).end) → AreLinked a (kind_of name).odd d e → AreLinked a (kind_of name).odd d (Generator (kind_of name).end)
  end_back d e same h = linked_odd a name d (Generator (kind_of name).end) (subst (λ v. leads a.size (kind_of name) (kind_of name).odd (vec a name d) v ≡ true) same (leads_odd a name d e h))

  -- one term alone is place 0
  alone_ends : (t : Tree) → IsPlace a (kind_of name).places 0 t → vec a name t ≡ vec a name (Generator (kind_of name).end) → IsPlace a (kind_of name).places (kind_of name).end t
  unfolding vec
  alone_ends t h same xs g = h xs g ∙ ends_at_first a (kind_of name) (is_kind name) (sym (place_has_vector a (kind_of name) 0 t (is_kind name) h) ∙ same) xs g

  ended : (terms : List Tree) → IsBeginning a (kind_of name) terms → EndsWith (λ t. vec a name t ≡ vec a name (Generator (kind_of name).end)) terms → (ts : List Tree) × IsChain a (kind_of name) ts
  unfolding with_last
  ended [] b l = absurd l
  ended (t ∷ []) b l = (t ∷ [], record { beginning = b; last = alone_ends t b.first l })
  ended (t ∷ u ∷ rest) b l = (
    with_last (Generator (kind_of name).end) (t ∷ u ∷ rest),
    record {
      beginning = record {
        terms_are = all_with_last (IsTerm (arities_of a) (kind_of name).places) (Generator (kind_of name).end) (t ∷ u ∷ rest) (is_kind name).end b.terms_are;
        first = b.first;
        own = all_with_last (IsOwn a (kind_of name)) (Generator (kind_of name).end) (t ∷ u ∷ rest) (end_is_own a (kind_of name) (is_kind name)) b.own;
        linked = link_with_last (AreLinked a (kind_of name).even) (AreLinked a (kind_of name).odd) (λ e. vec a name e ≡ vec a name (Generator (kind_of name).end)) (Generator (kind_of name).end) (t ∷ u ∷ rest) end_over end_back l b.linked;
      };
      last = ends_with_last (IsPlace a (kind_of name).places (kind_of name).end) (Generator (kind_of name).end) t (u ∷ rest) (λ xs h. refl);
    },
  )

  -- where there is no chain, the end is not reached
  end_not_reached : (even : Bool) → IsReached a (kind_of name) even (place_of a (kind_of name) (kind_of name).end) → HasNoChain a name → ⊥
  unfolding vec
  end_not_reached even r none =
      let reaches : EndsWith (λ t. vector_of a (kind_of name).patterns t ≡ vec a name (Generator (kind_of name).end)) r.terms =
      subst (λ v. EndsWith (λ t. vector_of a (kind_of name).patterns t ≡ v) r.terms)
      (sym (end_is a name (Generator (kind_of name).end) (λ xs h. refl))) r.reaches in
      let c = ended r.terms r.beginning reaches in
      none c.0 c.1

module _ (a : FiniteAlgebra) (name : ChainName) (rows : List Vector) (even odd : List ℕ) (some : 0 < length (all_fillings a.size (kind_of name).patterns))
    (exact : AreExact a (chain_width a (kind_of name)) (generators_of a (kind_of name)) rows) (evens : AreReached a (kind_of name) true rows even) (odds : AreReached a (kind_of name) false rows odd) (none : HasNoChain a name) where
  -- the term of a row
  record TermOf (v : Vector) : Type 0 where
    term : Tree
    is_term : IsTerm (arities_of a) (kind_of name).places term
    vector : vec a name term ≡ v

  term_of : (i : ℕ) (v : Vector) → slice_get rows i ≡ Some v → TermOf v
  unfolding vec
  term_of i v at =
      let member = subst (λ n. Sg (replicate n a) (generators_of a (kind_of name)) v) (length-replicate (length (all_fillings a.size (kind_of name).patterns)) a) (exact.generated v (Contains-slice_get rows i v at)) in
      let t = term_of_member a (kind_of name) v (is_kind name) some member in
      record { term = t.0; is_term = t.1; vector = t.2 }

  -- a row that is reached leads to another, by the link of its side
  led : (side : Bool) (i : ℕ) (v u : Vector) (at : slice_get rows i ≡ Some v) → is_own_row a.size (kind_of name) v ≡ true
      → (r : IsReached a (kind_of name) side u) → (ends_even r.terms ≡ true → leads a.size (kind_of name) (kind_of name).even u v ≡ true)
      → (ends_even r.terms ≡ false → leads a.size (kind_of name) (kind_of name).odd u v ≡ true)
      → IsReached a (kind_of name) (is_among_even (kind_of name) (r.terms ++ (term_of i v at).term ∷ [])) v
  led side i v u at own r over back =
      let t = term_of i v at in
      let mine = own_term a name t.term (subst (λ z. is_own_row a.size (kind_of name) z ≡ true) (sym t.vector) own) in
      subst (IsReached a (kind_of name) (is_among_even (kind_of name) (r.terms ++ t.term ∷ []))) t.vector
      (goes_on a name side u t.term r t.is_term mine
      (λ e d same.
      linked_even a name d t.term
      (subst (λ z. leads a.size (kind_of name) (kind_of name).even z (vec a name t.term) ≡ true) (sym same)
      (subst (λ z. leads a.size (kind_of name) (kind_of name).even u z ≡ true) (sym t.vector) (over e))))
      (λ e d same.
      linked_odd a name d t.term
      (subst (λ z. leads a.size (kind_of name) (kind_of name).odd z (vec a name t.term) ≡ true) (sym same)
      (subst (λ z. leads a.size (kind_of name) (kind_of name).odd u z ≡ true) (sym t.vector) (back e)))))

  row_at : (p : ℕ) → p < length rows → (u : Vector) × (slice_get rows p ≡ Some u)
  row_at p l = found rows p l

  start_fine : (i : ℕ) (v : Vector) → slice_get rows i ≡ Some v → is_started (place_of a (kind_of name) 0) even i v ≡ true
  start_fine i v at = where_so (is_same v (place_of a (kind_of name) 0)) (holds_position even i) (λ same.
      is_held even i ((evens.exact i v at).1 (subst (IsReached a (kind_of name) true) (sym (same_is v (place_of a (kind_of name) 0) same)) (start_reached a name))))

  end_fine : (i : ℕ) (v : Vector) → slice_get rows i ≡ Some v → is_not_end (place_of a (kind_of name) (kind_of name).end) even (odd_positions (kind_of name) even odd) i v ≡ true
  end_fine i v at = where_so (is_same v (place_of a (kind_of name) (kind_of name).end)) (not (holds_position even i) && not (holds_position (odd_positions (kind_of name) even odd) i)) (λ same.
      let is = same_is v (place_of a (kind_of name) (kind_of name).end) same in
      let no_even : holds_position even i ≡ true → ⊥ = λ h. end_not_reached a name true (subst (IsReached a (kind_of name) true) is ((evens.exact i v at).0 (held_is even i h))) none in
      let no_odd : holds_position odd i ≡ true → ⊥ = λ h. end_not_reached a name false (subst (IsReached a (kind_of name) false) is ((odds.exact i v at).0 (held_is odd i h))) none in
      and_from (not (holds_position even i)) (not (holds_position (odd_positions (kind_of name) even odd) i))
      (not_held (holds_position even i) no_even) (not_held (holds_position (odd_positions (kind_of name) even odd) i) (other name no_even no_odd)))
    where
      other : (n : ChainName) → (holds_position even i ≡ true → ⊥) → (holds_position odd i ≡ true → ⊥) → holds_position (odd_positions (kind_of n) even odd) i ≡ true → ⊥
      other Jonsson e o = o
      other Hm e o = e

-- ---- the rows that are led to

-- those of a kind whose sides are told apart
module _ (a : FiniteAlgebra) (rows : List Vector) (even odd : List ℕ) (some : 0 < length (all_fillings a.size (kind_of Jonsson).patterns))
    (exact : AreExact a (chain_width a (kind_of Jonsson)) (generators_of a (kind_of Jonsson)) rows)
    (evens : AreReached a (kind_of Jonsson) true rows even) (odds : AreReached a (kind_of Jonsson) false rows odd) (none : HasNoChain a Jonsson)
  where
    from_even : (i : ℕ) (v : Vector) → slice_get rows i ≡ Some v → is_own_row a.size (kind_of Jonsson) v ≡ true → is_led_to a.size (kind_of Jonsson) (kind_of Jonsson).even rows even v ≡ true → holds_position odd i ≡ true
    from_even i v at own h =
        let q = led_from (λ p. leads a.size (kind_of Jonsson) (kind_of Jonsson).even (slice_index_or rows p []) v) even h in
        let u = found rows q.0 (all_at (λ p. p < length rows) even q.0 evens.within q.1) in
        let from : leads a.size (kind_of Jonsson) (kind_of Jonsson).even u.0 v ≡ true = ap (λ z. leads a.size (kind_of Jonsson) (kind_of Jonsson).even z v) (sym (get_or_from_slice_get rows q.0 u.0 [] u.1)) ∙ q.2 in
        let r = (evens.exact q.0 u.0 u.1).0 q.1 in
        let side : ends_even r.terms ≡ true = left_true (ends_even r.terms) r.parity in
        let next = led a Jonsson rows even odd some exact evens odds none true i v u.0 at own r (λ e. from) (λ e. absurd (apart side e)) in
        let t = (term_of a Jonsson rows even odd some exact evens odds none i v at).term in
        let flips : is_among_even (kind_of Jonsson) (r.terms ++ t ∷ []) ≡ false = ap (λ b. b || false) (ends_other r.terms t ∙ ap not side) in
        is_held odd i ((odds.exact i v at).1 (subst (λ b. IsReached a (kind_of Jonsson) b v) flips next))
      where
        left_true : (b : Bool) → (b || false) ≡ true → b ≡ true
        left_true true e = refl
        left_true false e = cc

        apart : {b : Bool} → b ≡ true → b ≡ false → ⊥
        apart e f = cc

    from_odd : (i : ℕ) (v : Vector) → slice_get rows i ≡ Some v → is_own_row a.size (kind_of Jonsson) v ≡ true → is_led_to a.size (kind_of Jonsson) (kind_of Jonsson).odd rows odd v ≡ true → holds_position even i ≡ true
    from_odd i v at own h =
        let q = led_from (λ p. leads a.size (kind_of Jonsson) (kind_of Jonsson).odd (slice_index_or rows p []) v) odd h in
        let u = found rows q.0 (all_at (λ p. p < length rows) odd q.0 odds.within q.1) in
        let from : leads a.size (kind_of Jonsson) (kind_of Jonsson).odd u.0 v ≡ true = ap (λ z. leads a.size (kind_of Jonsson) (kind_of Jonsson).odd z v) (sym (get_or_from_slice_get rows q.0 u.0 [] u.1)) ∙ q.2 in
        let r = (odds.exact q.0 u.0 u.1).0 q.1 in
        let side : ends_even r.terms ≡ false = left_false (ends_even r.terms) r.parity in
        let next = led a Jonsson rows even odd some exact evens odds none false i v u.0 at own r (λ e. absurd (apart e side)) (λ e. from) in
        let t = (term_of a Jonsson rows even odd some exact evens odds none i v at).term in
        let flips : is_among_even (kind_of Jonsson) (r.terms ++ t ∷ []) ≡ true = ap (λ b. b || false) (ends_other r.terms t ∙ ap not side) in
        is_held even i ((evens.exact i v at).1 (subst (λ b. IsReached a (kind_of Jonsson) b v) flips next))
      where
        left_false : (b : Bool) → (b || false) ≡ false → b ≡ false
        left_false true e = cc
        left_false false e = refl

        apart : {b : Bool} → b ≡ true → b ≡ false → ⊥
        apart e f = cc

    followed_jonsson : (i : ℕ) (v : Vector) → slice_get rows i ≡ Some v → is_followed a.size (kind_of Jonsson) rows even odd i v ≡ true
    followed_jonsson i v at =
        where_so (is_own_row a.size (kind_of Jonsson) v)
        ((holds_position odd i || not (is_led_to a.size (kind_of Jonsson) (kind_of Jonsson).even rows even v))
        && (holds_position even i || not (is_led_to a.size (kind_of Jonsson) (kind_of Jonsson).odd rows odd v)))
        (λ own.
        and_from (holds_position odd i || not (is_led_to a.size (kind_of Jonsson) (kind_of Jonsson).even rows even v)) (holds_position even i || not (is_led_to a.size (kind_of Jonsson) (kind_of Jonsson).odd rows odd v))
        (or_not (holds_position odd i) (is_led_to a.size (kind_of Jonsson) (kind_of Jonsson).even rows even v) (from_even i v at own))
        (or_not (holds_position even i) (is_led_to a.size (kind_of Jonsson) (kind_of Jonsson).odd rows odd v) (from_odd i v at own)))

-- those of a kind whose sides are not
module _ (a : FiniteAlgebra) (rows : List Vector) (even odd : List ℕ) (some : 0 < length (all_fillings a.size (kind_of Hm).patterns))
    (exact : AreExact a (chain_width a (kind_of Hm)) (generators_of a (kind_of Hm)) rows) (evens : AreReached a (kind_of Hm) true rows even) (odds : AreReached a (kind_of Hm) false rows odd) (none : HasNoChain a Hm) where
  from_any : (i : ℕ) (v : Vector) → slice_get rows i ≡ Some v → is_led_to a.size (kind_of Hm) (kind_of Hm).even rows even v ≡ true → holds_position even i ≡ true
  from_any i v at h =
      let q = led_from (λ p. leads a.size (kind_of Hm) (kind_of Hm).even (slice_index_or rows p []) v) even h in
      let u = found rows q.0 (all_at (λ p. p < length rows) even q.0 evens.within q.1) in
      let from : leads a.size (kind_of Hm) (kind_of Hm).even u.0 v ≡ true = ap (λ z. leads a.size (kind_of Hm) (kind_of Hm).even z v) (sym (get_or_from_slice_get rows q.0 u.0 [] u.1)) ∙ q.2 in
      let r = (evens.exact q.0 u.0 u.1).0 q.1 in
      let next = led a Hm rows even odd some exact evens odds none true i v u.0 at refl r (λ e. from) (λ e. from) in
      let t = (term_of a Hm rows even odd some exact evens odds none i v at).term in
      is_held even i ((evens.exact i v at).1 (subst (λ b. IsReached a (kind_of Hm) b v) (always (ends_even (r.terms ++ t ∷ []))) next))
    where
      always : (b : Bool) → (b || true) ≡ true
      always true = refl
      always false = refl

  followed_hm : (i : ℕ) (v : Vector) → slice_get rows i ≡ Some v → is_followed a.size (kind_of Hm) rows even even i v ≡ true
  followed_hm i v at =
      and_from (holds_position even i || not (is_led_to a.size (kind_of Hm) (kind_of Hm).even rows even v)) (holds_position even i || not (is_led_to a.size (kind_of Hm) (kind_of Hm).odd rows even v))
      (or_not (holds_position even i) (is_led_to a.size (kind_of Hm) (kind_of Hm).even rows even v) (from_any i v at))
      (or_not (holds_position even i) (is_led_to a.size (kind_of Hm) (kind_of Hm).odd rows even v) (from_any i v at))

follows_fine : (a : FiniteAlgebra) (name : ChainName) (rows : List Vector) (even odd : List ℕ)
    → 0 < length (all_fillings a.size (kind_of name).patterns) → AreExact a (chain_width a (kind_of name)) (generators_of a (kind_of name)) rows
    → AreReached a (kind_of name) true rows even → AreReached a (kind_of name) false rows odd → HasNoChain a name
    → (i : ℕ) (v : Vector) → slice_get rows i ≡ Some v → is_followed a.size (kind_of name) rows even (odd_positions (kind_of name) even odd) i v ≡ true
follows_fine a Jonsson rows even odd some exact evens odds none i v at = followed_jonsson a rows even odd some exact evens odds none i v at
follows_fine a Hm rows even odd some exact evens odds none i v at = followed_hm a rows even odd some exact evens odds none i v at

-- ---- the whole

each_row : (good : ℕ → Vector → Bool) (rows : List Vector) → ((i : ℕ) (v : Vector) → slice_get rows i ≡ Some v → good i v ≡ true) → row_flaw good rows ≡ None
each_row good rows h = no_option flaw.Reached (first_bad good 0 rows) (none_bad good 0 rows (λ i v at. (let z : 0 + i ≡ i = omega arith in ap (λ k. good k v) z ∙ h i v at)))

pub flawless_no_chain : (a : FiniteAlgebra) (name : ChainName) (rows : List Vector) (even odd : List ℕ) → VectorsAreFlawless → ExactIsFlawless
    → 0 < a.size → chain_width a (kind_of name) ≤ WIDTH → IsIncreasing rows → AllByRecursion (IsVector (power a (chain_width a (kind_of name)))) rows
    → AreExact a (chain_width a (kind_of name)) (generators_of a (kind_of name)) rows
    → AreReached a (kind_of name) true rows even → AreReached a (kind_of name) false rows odd → HasNoChain a name → no_chain_flaw a name rows even odd ≡ None
flawless_no_chain a name rows even odd fine closed size narrow inc vectors exact evens odds none =
    let some = some_fillings a.size (kind_of name) (is_kind name) size in
    no_line (no_chain_lines a (kind_of name) rows even odd) (
      no_line (refusal_if (nat_lt WIDTH (chain_width a (kind_of name))) flaw.Width ∷ vectors_flaw a.size (chain_width a (kind_of name)) Rows rows ∷ closed_flaw a (chain_width a (kind_of name)) (generators_of a (kind_of name)) rows ∷ []) (
        refusal_if-false (nat_lt WIDTH (chain_width a (kind_of name))) flaw.Width (within (chain_width a (kind_of name)) narrow),
        (fine a (chain_width a (kind_of name)) Rows rows vectors, (closed a (chain_width a (kind_of name)) (generators_of a (kind_of name)) rows inc exact, tt)),
      ),
      (
        no_line (positions_flaw (length rows) even ∷ positions_flaw (length rows) odd ∷ parity_flaw (kind_of name) odd ∷ [])
            (no_position_flaw a name true rows even evens, (no_position_flaw a name false rows odd odds, (no_parity_flaw a name rows odd odds, tt))),
        (
          no_line (reached_lines a.size (kind_of name) (place_of a (kind_of name) 0) (place_of a (kind_of name) (kind_of name).end) rows even (odd_positions (kind_of name) even odd)) (
            each_row (is_started (place_of a (kind_of name) 0) even) rows (start_fine a name rows even odd some exact evens odds none),
            (
              each_row (is_followed a.size (kind_of name) rows even (odd_positions (kind_of name) even odd)) rows (follows_fine a name rows even odd some exact evens odds none),
              (each_row (is_not_end (place_of a (kind_of name) (kind_of name).end) even (odd_positions (kind_of name) even odd)) rows (end_fine a name rows even odd some exact evens odds none), tt),
            ),
          ),
          tt,
        ),
      ),
    )
  where
    within : (n : ℕ) → n ≤ WIDTH → nat_lt WIDTH n ≡ false
    within n l = grind (arith, nat_tests)
