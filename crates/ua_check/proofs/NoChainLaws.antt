-- Where the rows that are reached hold the start, are closed under the links, and do not hold the end, there is no chain.
use Rattle.std.proofs.Common.{◌≡◌, ℕ, ◌+◌, ◌<◌, Bool, true, false, not, ◌&&◌, ◌||◌, Some, None, List, [], ◌∷◌, length, get_or, refl, sym, ap, ◌∙◌, subst, arith}
use Rattle.std.specs.Prelude.{slice_get, ◌==◌, nat_lt, replicate}
use Rattle.std.specs.List.{AllByRecursion, list_any}
use Rattle.std.proofs.lemmas.Bool.Decides.{nat_tests}
use Rattle.std.proofs.lemmas.List.{length-replicate}
use Rattle.std.proofs.lemmas.Option.{get_or_from_slice_get}
use Rattle.ua_table.specs.Algebras.{Vector, FiniteAlgebra, arities_of}
use Rattle.ua_table.specs.Terms.{Tree, IsTerm, eval}
use Rattle.ua_table.specs.declared.limits.TheConstants.{WIDTH}
use Rattle.ua_table.specs.Refusals.{refusal_if}
use Rattle.ua_table.specs.Generated.{Sg}
use Rattle.ua_table.proofs.Lists.{found}
use Rattle.ua_table.specs.Sequences.{Alternates, EndsWith}
use Rattle.ua_identity.specs.Identities.{xyx, xxy, xyy}
use Rattle.ua_identity.specs.Chains.{Link, AreLinked, IsOwn, IsPlace, generators_of}
use Rattle.ua_identity.specs.Patterns.{all_fillings, vector_of}
use Rattle.ua_identity.proofs.PatternLaws.{part_is, parts_from_linked, part_from_satisfied}
use Rattle.ua_cert.specs.declared.certs.ChainName.{ChainName}
use Rattle.ua_cert.specs.declared.certs.ChainName.TheVariants.{Jonsson, Hm}
use Rattle.ua_flaws.specs.declared.flaws.ListName.TheVariants.{Rows}
use Rattle.ua_flaws.specs.declared.flaws.Flaw.TheVariants as flaw
use Rattle.ua_flaws.specs.Firsts.{first_bad, is_same}
use Rattle.ua_flaws.specs.Flaws.{vectors_flaw, closed_flaw}
use Rattle.ua_flaws.specs.Laws.{RowsHoldAll}
use Rattle.ua_check.specs.Chains.{kind_of, chain_width, HasNoChain}
use Rattle.ua_check.specs.Reached.{leads, is_own_row, holds_position, is_led_to, is_started, is_followed, is_not_end, place_of, row_flaw, reached_lines, reached_flaw, odd_positions, no_chain_lines, no_chain_flaw}
use Rattle.ua_flaws.proofs.FirstLaws.{both, not_true, option_none, none_of, each_good}
use Rattle.ua_flaws.proofs.PassLaws.{is_same_vector}
use Rattle.ua_identity.proofs.KindLaws.{some_fillings}
use Rattle.ua_identity.proofs.ChainLaws.{member_of_term, place_has_vector}
use Rattle.ua_check.proofs.ReachedLaws.{is_kind}

-- ---- tests

-- one that stands among the positions leads where it does
pub any_at : (f : ℕ → Bool) (ps : List ℕ) (p : ℕ) → holds_position ps p ≡ true → f p ≡ true → list_any f ps ≡ true
any_at f [] p h e = cc
any_at f (q ∷ ps) p h e =
    elim (q == p) as (λ b. (q == p) ≡ b → (b || holds_position ps p) ≡ true → (f q || list_any f ps) ≡ true) [
      | true ↦ λ t k. (let same : p ≡ q = (grind (arith, nat_tests)) in ap (λ b. b || list_any f ps) (ap f (sym same) ∙ e))
      | false ↦ λ t k. behind (f q) (any_at f ps p k e)
    ] refl h
  where
    behind : (b : Bool) {c : Bool} → c ≡ true → (b || c) ≡ true
    behind true k = refl
    behind false k = k

after_not : (b c : Bool) → (not b || c) ≡ true → b ≡ true → c ≡ true
after_not true c e t = e
after_not false c e t = cc

after_or : (b c : Bool) → (b || not c) ≡ true → c ≡ true → b ≡ true
after_or true c e t = refl
after_or false true e t = cc
after_or false false e t = cc

row_fine : (good : ℕ → Vector → Bool) (rows : List Vector) → row_flaw good rows ≡ None → (i : ℕ) (v : Vector) → slice_get rows i ≡ Some v → good i v ≡ true
row_fine good rows none i v at = let z : 0 + i ≡ i = omega arith in ap (λ k. good k v) (sym z) ∙ each_good good 0 rows (option_none flaw.Reached (first_bad good 0 rows) none) i v at

-- ---- the vectors of terms

module _ (a : FiniteAlgebra) where
  unfoldable pub vec : ChainName → Tree → Vector
  vec name t = vector_of a (kind_of name).patterns t

  pub even_leads : (name : ChainName) (d e : Tree) → AreLinked a (kind_of name).even d e → leads a.size (kind_of name) (kind_of name).even (vec name d) (vec name e) ≡ true
  unfolding vec
  even_leads Jonsson d e h =
      is_same_vector _ _
      (part_is a.size (kind_of Jonsson).patterns 1 xxy (λ xs. eval a xs d) refl ∙ parts_from_linked a (kind_of Jonsson).even d e refl h
      ∙ sym (part_is a.size (kind_of Jonsson).patterns 1 xxy (λ xs. eval a xs e) refl))
  even_leads Hm d e h = is_same_vector _ _ (part_is a.size (kind_of Hm).patterns 0 xxy (λ xs. eval a xs d) refl ∙ parts_from_linked a (kind_of Hm).even d e refl h ∙ sym (part_is a.size (kind_of Hm).patterns 1 xyy (λ xs. eval a xs e) refl))

  pub odd_leads : (name : ChainName) (d e : Tree) → AreLinked a (kind_of name).odd d e → leads a.size (kind_of name) (kind_of name).odd (vec name d) (vec name e) ≡ true
  unfolding vec
  odd_leads Jonsson d e h =
      is_same_vector _ _
      (part_is a.size (kind_of Jonsson).patterns 2 xyy (λ xs. eval a xs d) refl ∙ parts_from_linked a (kind_of Jonsson).odd d e refl h
      ∙ sym (part_is a.size (kind_of Jonsson).patterns 2 xyy (λ xs. eval a xs e) refl))
  odd_leads Hm d e h = is_same_vector _ _ (part_is a.size (kind_of Hm).patterns 0 xxy (λ xs. eval a xs d) refl ∙ parts_from_linked a (kind_of Hm).odd d e refl h ∙ sym (part_is a.size (kind_of Hm).patterns 1 xyy (λ xs. eval a xs e) refl))

  own_row : (name : ChainName) (t : Tree) → IsOwn a (kind_of name) t → is_own_row a.size (kind_of name) (vec name t) ≡ true
  unfolding vec
  own_row Jonsson t h = ap (λ b. b && true) (is_same_vector _ _ (part_is a.size (kind_of Jonsson).patterns 0 xyx (λ xs. eval a xs t) refl ∙ part_from_satisfied a (record { pattern = xyx; value = 0 }) t h.0))
  own_row Hm t h = refl

  pub start_is : (name : ChainName) (t : Tree) → IsPlace a (kind_of name).places 0 t → vec name t ≡ place_of a (kind_of name) 0
  unfolding vec
  start_is Jonsson t h = place_has_vector a (kind_of Jonsson) 0 t (is_kind Jonsson) h
  start_is Hm t h = place_has_vector a (kind_of Hm) 0 t (is_kind Hm) h

  pub end_is : (name : ChainName) (t : Tree) → IsPlace a (kind_of name).places (kind_of name).end t → vec name t ≡ place_of a (kind_of name) (kind_of name).end
  unfolding vec
  end_is Jonsson t h = place_has_vector a (kind_of Jonsson) (kind_of Jonsson).end t (is_kind Jonsson) h
  end_is Hm t h = place_has_vector a (kind_of Hm) (kind_of Hm).end t (is_kind Hm) h

-- ---- no chain

-- climbs by two links in turn from one side to the other
climbed : (E O : Tree → Tree → Type 0) (Good P Q R : Tree → Type 0) (goal : Type 0) → ((d e : Tree) → P d → Good e → E d e → Q e)
    → ((d e : Tree) → Q d → Good e → O d e → P e) → ((t : Tree) → P t → R t → goal) → ((t : Tree) → Q t → R t → goal)
    → (t : Tree) (ts : List Tree) → P t → AllByRecursion Good ts → Alternates E O (t ∷ ts) → EndsWith R (t ∷ ts) → goal
climbed E O Good P Q R goal over back here there t [] p good links ends = here t p ends
climbed E O Good P Q R goal over back here there t (u ∷ ts) p good links ends = climbed O E Good Q P R goal back over there here u ts (over t u p good.0 links.0) good.1 links.1 ends

-- what each term is in a chain
record IsGood (a : FiniteAlgebra) (name : ChainName) (t : Tree) : Type 0 where
  is_term : IsTerm (arities_of a) (kind_of name).places t
  own : IsOwn a (kind_of name) t

module _ (a : FiniteAlgebra) (name : ChainName) (rows : List Vector) (even odd : List ℕ) (hold : RowsHoldAll)
    (some : 0 < length (all_fillings a.size (kind_of name).patterns))
    (closed : closed_flaw a (chain_width a (kind_of name)) (generators_of a (kind_of name)) rows ≡ None)
    (reached : reached_flaw a (kind_of name) rows even odd ≡ None) where
  wide : ℕ
  wide = length (all_fillings a.size (kind_of name).patterns)

  -- the row of a vector
  record RowOf (v : Vector) : Type 0 where
    place : ℕ
    stands : slice_get rows place ≡ Some v

  row_of : (t : Tree) → IsTerm (arities_of a) (kind_of name).places t → RowOf (vec a name t)
  unfolding vec wide
  row_of t h =
      let v = vector_of a (kind_of name).patterns t in
      let gens = generators_of a (kind_of name) in
      let member = member_of_term a (kind_of name) t (is_kind name) some h in
      let there = hold a (chain_width a (kind_of name)) gens rows closed v (subst (λ n. Sg (replicate n a) gens v) (sym (length-replicate wide a)) member) in
      let at = found rows there.0 there.1 in
      let same : at.0 ≡ v = sym (get_or_from_slice_get rows there.0 at.0 v at.1) ∙ there.2 in
      record { place = there.0; stands = at.1 ∙ ap (λ u. Some u) same }

  -- the vector of a term stands at one of the positions
  record Stands (ps : List ℕ) (t : Tree) : Type 0 where
    place : ℕ
    stands : slice_get rows place ≡ Some (vec a name t)
    held : holds_position ps place ≡ true

  tests : AllByRecursion (λ o. o ≡ None) (reached_lines a.size (kind_of name) (place_of a (kind_of name) 0) (place_of a (kind_of name) (kind_of name).end) rows even odd)
  tests = none_of (reached_lines a.size (kind_of name) (place_of a (kind_of name) 0) (place_of a (kind_of name) (kind_of name).end) rows even odd) reached

  begins : (t : Tree) → IsGood a name t → IsPlace a (kind_of name).places 0 t → Stands even t
  begins t good h =
      let r = row_of t good.is_term in
      let test = row_fine (is_started (place_of a (kind_of name) 0) even) rows tests.0 r.place (vec a name t) r.stands in
      record {
        place = r.place;
        stands = r.stands;
        held = after_not (is_same (vec a name t) (place_of a (kind_of name) 0)) (holds_position even r.place)
            test (is_same_vector (vec a name t) (place_of a (kind_of name) 0) (start_is a name t h));
      }

  led : (link : Link) (ps : List ℕ) (d e : Tree) → Stands ps d → leads a.size (kind_of name) link (vec a name d) (vec a name e) ≡ true → is_led_to a.size (kind_of name) link rows ps (vec a name e) ≡ true
  led link ps d e s h =
      any_at (λ p. leads a.size (kind_of name) link (get_or rows p []) (vec a name e)) ps s.place s.held
      (ap (λ v. leads a.size (kind_of name) link v (vec a name e)) (get_or_from_slice_get rows s.place (vec a name d) [] s.stands) ∙ h)

  -- what the test of a row that is led to says
  record Followed (i : ℕ) (v : Vector) : Type 0 where
    over : is_led_to a.size (kind_of name) (kind_of name).even rows even v ≡ true → holds_position odd i ≡ true
    back : is_led_to a.size (kind_of name) (kind_of name).odd rows odd v ≡ true → holds_position even i ≡ true

  followed : (t : Tree) (good : IsGood a name t) → Followed (row_of t good.is_term).place (vec a name t)
  followed t good =
      let r = row_of t good.is_term in
      let v = vec a name t in
      let test = row_fine (is_followed a.size (kind_of name) rows even odd) rows tests.1.0 r.place v r.stands in
      let sides =
      after_not (is_own_row a.size (kind_of name) v)
      ((holds_position odd r.place || not (is_led_to a.size (kind_of name) (kind_of name).even rows even v))
      && (holds_position even r.place || not (is_led_to a.size (kind_of name) (kind_of name).odd rows odd v)))
      test (own_row a name t good.own) in
      let each = both (holds_position odd r.place || not (is_led_to a.size (kind_of name) (kind_of name).even rows even v)) (holds_position even r.place || not (is_led_to a.size (kind_of name) (kind_of name).odd rows odd v)) sides in
      record {
        over = after_or (holds_position odd r.place) (is_led_to a.size (kind_of name) (kind_of name).even rows even v) each.0;
        back = after_or (holds_position even r.place) (is_led_to a.size (kind_of name) (kind_of name).odd rows odd v) each.1;
      }

  over : (d e : Tree) → Stands even d → IsGood a name e → AreLinked a (kind_of name).even d e → Stands odd e
  over d e s good h = record { place = (row_of e good.is_term).place; stands = (row_of e good.is_term).stands; held = (followed e good).over (led (kind_of name).even even d e s (even_leads a name d e h)) }

  back : (d e : Tree) → Stands odd d → IsGood a name e → AreLinked a (kind_of name).odd d e → Stands even e
  back d e s good h = record { place = (row_of e good.is_term).place; stands = (row_of e good.is_term).stands; held = (followed e good).back (led (kind_of name).odd odd d e s (odd_leads a name d e h)) }

  -- neither side holds the end
  record NoEnd (i : ℕ) : Type 0 where
    even_not : holds_position even i ≡ false
    odd_not : holds_position odd i ≡ false

  no_end : (i : ℕ) (t : Tree) → slice_get rows i ≡ Some (vec a name t) → IsPlace a (kind_of name).places (kind_of name).end t → NoEnd i
  no_end i t at h =
      let end = place_of a (kind_of name) (kind_of name).end in
      let v = vec a name t in
      let test = row_fine (is_not_end end even odd) rows tests.1.1.0 i v at in
      let sides = both (not (holds_position even i)) (not (holds_position odd i)) (after_not (is_same v end) (not (holds_position even i) && not (holds_position odd i)) test (is_same_vector v end (end_is a name t h))) in
      record { even_not = not_true (holds_position even i) sides.0; odd_not = not_true (holds_position odd i) sides.1 }

  goods : (ts : List Tree) → AllByRecursion (IsTerm (arities_of a) (kind_of name).places) ts → AllByRecursion (IsOwn a (kind_of name)) ts → AllByRecursion (IsGood a name) ts
  goods [] h k = tt
  goods (t ∷ ts) h k = (record { is_term = h.0; own = k.0 }, goods ts h.1 k.1)

  pub no_chain : HasNoChain a name
  no_chain [] chain = chain.beginning.first
  no_chain (t ∷ ts) chain =
      let all = goods (t ∷ ts) chain.beginning.terms_are chain.beginning.own in
      climbed (AreLinked a (kind_of name).even) (AreLinked a (kind_of name).odd) (IsGood a name) (Stands even) (Stands odd) (IsPlace a (kind_of name).places (kind_of name).end) ⊥ over back
      (λ u s h. (let n = (no_end s.place u s.stands h).even_not in let k = s.held in cc))
      (λ u s h. (let n = (no_end s.place u s.stands h).odd_not in let k = s.held in cc))
      t ts (begins t all.0 chain.beginning.first) all.1 chain.beginning.linked chain.last

pub no_chain_holds : (a : FiniteAlgebra) (name : ChainName) (rows : List Vector) (even odd : List ℕ) → RowsHoldAll → 0 < a.size → no_chain_flaw a name rows even odd ≡ None → HasNoChain a name
no_chain_holds a name rows even odd hold some none =
    let l = none_of (no_chain_lines a (kind_of name) rows even odd) none in
    let r =
    none_of
    (refusal_if (nat_lt WIDTH (chain_width a (kind_of name))) flaw.Width ∷ vectors_flaw a.size (chain_width a (kind_of name)) Rows rows
    ∷ closed_flaw a (chain_width a (kind_of name)) (generators_of a (kind_of name)) rows ∷ [])
    l.0 in
    no_chain a name rows even (odd_positions (kind_of name) even odd) hold (some_fillings a.size (kind_of name) (is_kind name) some) r.1.1.0 l.1.1.0
