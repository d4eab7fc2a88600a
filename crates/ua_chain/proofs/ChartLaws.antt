-- Chains of terms and climbs of rows, over a chart.
use Rattle.std.proofs.Common.{◌≡◌, ℕ, ◌<◌, ◌≤◌, Bool, true, false, not, List, [], ◌∷◌, length, get_or, refl, sym, ap, ◌∙◌, subst, arith, Some, ⊎_elim, inl, inr}
use Rattle.std.specs.Prelude.{◌↔◌, ◌⊎◌, ◌||◌, slice_get}
use Rattle.std.specs.List.{AllByRecursion, AllZip}
use Rattle.std.proofs.lemmas.List.{get_or_past}
use Rattle.std.proofs.lemmas.Option.{slice_get-get_or, slice_get_within, same_Some, get_or_from_slice_get}
use Rattle.std.proofs.lemmas.Bool.{cases_lt, false≢true}
use Rattle.ua_table.specs.Algebras.{Vector, FiniteAlgebra, arities_of}
use Rattle.ua_table.specs.Terms.{Tree, Generator, IsTerm, eval}
use Rattle.ua_table.proofs.Lists.{Contains-slice_get, found, AllZip-length}
use Rattle.ua_chain.proofs.ZipLaws.{alternates_zip, alternates_unzip, all_zip, all_unzip, ends_unzip, ends_weaker, even_zip}
use Rattle.ua_table.specs.Sequences.{BeginsWith, EndsWith, ends_even}
use Rattle.ua_climb.specs.Ladders.{LinkLists, Joins, IsAllowed, IsClimb, IsLeastClimb, IsClimbed}
use Rattle.ua_identity.specs.Chains.{ChainKind, AreLinked, IsPlace, IsOwn, IsBeginning, IsChain, IsLeastChain, IsReached}
use Rattle.ua_identity.specs.Kinds.{IsKind}
use Rattle.ua_identity.specs.Patterns.{all_fillings, vector_of}
use Rattle.ua_chain.specs.inner.Charts.{IsRowOf, IsChart}
use Rattle.ua_identity.proofs.ChainLaws.{member_of_term, term_of_member, place_has_vector, one_element, ends_at_first, same_vectors}

module _ (a : FiniteAlgebra) (kind : ChainKind) (vectors : List Vector) (allowed : List Bool) (even odd : LinkLists) (k : IsKind kind)
    (wide : 0 < length (all_fillings a.size kind.patterns)) (c : IsChart a kind vectors allowed even odd) where
  pub row_of_term : (t : Tree) → IsTerm (arities_of a) kind.places t → (i : ℕ) × IsRowOf a kind vectors t i
  row_of_term t h =
      let v = vector_of a kind.patterns t in
      let here = (c.exact v).1 (member_of_term a kind t k wide h) in
      (here.0, record { is_term = h; stands = slice_get-get_or vectors here.0 v here.1 ∙ ap Some here.2 })

  pub term_of_row : (i : ℕ) → i < length vectors → (t : Tree) × IsRowOf a kind vectors t i
  term_of_row i l =
      let v = found vectors i l in
      let t = term_of_member a kind v.0 k wide ((c.exact v.0).0 (Contains-slice_get vectors i v.0 v.1)) in
      (t.0, record { is_term = t.1; stands = v.1 ∙ ap Some (sym t.2) })

  -- rows for terms, of which the last is given
  record AreRowsTo (terms : List Tree) (end : ℕ) : Type 0 where
    rows : List ℕ
    are : AllZip (IsRowOf a kind vectors) terms rows
    ends : EndsWith (λ i. i ≡ end) rows

  rows_to : (terms : List Tree) (end : ℕ) → AllByRecursion (IsTerm (arities_of a) kind.places) terms → EndsWith (λ t. vector_of a kind.patterns t ≡ get_or vectors end []) terms → end < length vectors → AreRowsTo terms end
  rows_to [] end h e l = absurd e
  rows_to (t ∷ []) end h e l = record { rows = end ∷ []; are = (record { is_term = h.0; stands = slice_get-get_or vectors end [] l ∙ ap Some (sym e) }, tt); ends = refl }
  rows_to (t ∷ u ∷ terms) end h e l =
      let rest = rows_to (u ∷ terms) end h.1 e l in
      let here = row_of_term t h.0 in
      record { rows = here.0 ∷ rest.rows; are = (here.1, rest.are); ends = ends_more here.0 rest.rows end rest.ends }
    where
      ends_more : (i : ℕ) (rows : List ℕ) (end : ℕ) → EndsWith (λ i. i ≡ end) rows → EndsWith (λ i. i ≡ end) (i ∷ rows)
      ends_more i [] end h = absurd h
      ends_more i (j ∷ rows) end h = h

  -- a climb along the rows of a beginning
  pub record IsClimbFor (start : ℕ) (terms : List Tree) (end : ℕ) : Type 0 where
    pub rows : List ℕ
    pub are : AllZip (IsRowOf a kind vectors) terms rows
    pub climb : IsClimb allowed even odd start rows
    pub ends : EndsWith (λ i. i ≡ end) rows

  begins_at : (start : ℕ) (terms : List Tree) (rows : List ℕ) → IsRowOf a kind vectors (Generator 0) start → BeginsWith (IsPlace a kind.places 0) terms → AllZip (IsRowOf a kind vectors) terms rows → BeginsWith (λ i. i ≡ start) rows
  begins_at start [] rows s h z = absurd h
  begins_at start (t ∷ terms) [] s h z = absurd z
  begins_at start (t ∷ terms) (i ∷ rows) s h z = c.once i start (vector_of a kind.patterns t) z.0.stands (s.stands ∙ ap Some (sym (place_has_vector a kind 0 t k h)))

  pub climb_of_beginning : (start : ℕ) (terms : List Tree) (end : ℕ) → IsRowOf a kind vectors (Generator 0) start → IsBeginning a kind terms
      → EndsWith (λ t. vector_of a kind.patterns t ≡ get_or vectors end []) terms → end < length vectors → IsClimbFor start terms end
  climb_of_beginning start terms end s b e l =
      let r = rows_to terms end b.terms_are e l in
      record {
        rows = r.rows;
        are = r.are;
        climb = record {
          begins = begins_at start terms r.rows s b.first r.are;
          allows = all_zip (IsRowOf a kind vectors) (IsOwn a kind) (IsAllowed allowed) (λ t i z o. (c.own t i z).1 o) terms r.rows r.are b.own;
          joined =
              alternates_zip (IsRowOf a kind vectors) (AreLinked a kind.even) (AreLinked a kind.odd) (Joins even) (Joins odd)
              (λ d f i j x y h. (c.even_links d f i j x y).1 h) (λ d f i j x y h. (c.odd_links d f i j x y).1 h) terms r.rows r.are b.linked;
        };
        ends = r.ends;
      }

  -- a beginning along the rows of a climb
  pub beginning_of_climb : (start : ℕ) (terms : List Tree) (rows : List ℕ) → IsClimb allowed even odd start rows → AllZip (IsRowOf a kind vectors) terms rows → BeginsWith (IsPlace a kind.places 0) terms → IsBeginning a kind terms
  beginning_of_climb start terms rows h z first = record {
    terms_are = are_terms terms rows z;
    first = first;
    own = all_unzip (IsRowOf a kind vectors) (IsOwn a kind) (IsAllowed allowed) (λ t i x o. (c.own t i x).0 o) terms rows z h.allows;
    linked =
        alternates_unzip (IsRowOf a kind vectors) (AreLinked a kind.even) (AreLinked a kind.odd) (Joins even) (Joins odd)
        (λ d f i j x y e. (c.even_links d f i j x y).0 e) (λ d f i j x y e. (c.odd_links d f i j x y).0 e) terms rows z h.joined;
  }
    where
      are_terms : (terms : List Tree) (rows : List ℕ) → AllZip (IsRowOf a kind vectors) terms rows → AllByRecursion (IsTerm (arities_of a) kind.places) terms
      are_terms [] rows z = tt
      are_terms (t ∷ terms) [] z = absurd z
      are_terms (t ∷ terms) (i ∷ rows) z = (z.0.is_term, are_terms terms rows z.1)

  -- ---- the answers

  -- a chain leads to the row of the end
  chain_ends : (terms : List Tree) (end : ℕ) → IsRowOf a kind vectors (Generator kind.end) end → IsChain a kind terms → EndsWith (λ t. vector_of a kind.patterns t ≡ get_or vectors end []) terms
  chain_ends terms end e h =
      ends_weaker (IsPlace a kind.places kind.end) (λ t. vector_of a kind.patterns t ≡ get_or vectors end [])
      (λ t p.
      place_has_vector a kind kind.end t k p
      ∙ sym (get_or_from_slice_get vectors end (vector_of a kind.patterns (Generator kind.end)) [] e.stands))
      terms h.last

  row_low : (t : Tree) (i : ℕ) → IsRowOf a kind vectors t i → i < length vectors
  row_low t i h = slice_get_within vectors i (vector_of a kind.patterns t) h.stands

  -- the rows of a least climb give a least chain: generator 0 first and, where there is more than one, the generator of the end last
  pub least_chain : (start end : ℕ) (rows : List ℕ) (terms : List Tree) → IsRowOf a kind vectors (Generator 0) start
      → IsRowOf a kind vectors (Generator kind.end) end → IsLeastClimb allowed even odd start end rows → AllZip (IsRowOf a kind vectors) terms rows
      → BeginsWith (λ t. t ≡ Generator 0) terms → (1 < length terms → EndsWith (λ t. t ≡ Generator kind.end) terms) → IsLeastChain a kind terms
  least_chain start end rows terms s e h z first last = record {
    chain = record {
      beginning = beginning_of_climb start terms rows h.climb z (is_first terms first);
      last = is_last terms rows z first last h.ends h.climb.begins;
    };
    least = λ others d.
        let o = climb_of_beginning start others end s d.beginning (chain_ends others end e d) (row_low (Generator kind.end) end e) in
        let few = h.least o.rows o.climb o.ends in
        let left = AllZip-length (IsRowOf a kind vectors) terms rows z in
        let right = AllZip-length (IsRowOf a kind vectors) others o.rows o.are in
        omega arith;
  }
    where
      is_first : (terms : List Tree) → BeginsWith (λ t. t ≡ Generator 0) terms → BeginsWith (IsPlace a kind.places 0) terms
      is_first [] f = absurd f
      is_first (t ∷ terms) f = λ xs g. ap (eval a xs) f

      is_last : (terms : List Tree) (rows : List ℕ) → AllZip (IsRowOf a kind vectors) terms rows → BeginsWith (λ t. t ≡ Generator 0) terms
          → (1 < length terms → EndsWith (λ t. t ≡ Generator kind.end) terms) → EndsWith (λ i. i ≡ end) rows → BeginsWith (λ i. i ≡ start) rows
          → EndsWith (IsPlace a kind.places kind.end) terms
      is_last [] rows z f l ends begins = absurd f
      is_last (t ∷ []) [] z f l ends begins = absurd z
      is_last (t ∷ []) (i ∷ []) z f l ends begins =
          let both : start ≡ end = sym begins ∙ ends in
          let same : vector_of a kind.patterns (Generator 0) ≡ vector_of a kind.patterns (Generator kind.end) = same_Some _ _ (sym s.stands ∙ ap (slice_get vectors) both ∙ e.stands) in
          λ xs g. ap (eval a xs) f ∙ ends_at_first a kind k same xs g
      is_last (t ∷ []) (i ∷ j ∷ rows) z f l ends begins = absurd z.1
      is_last (t ∷ u ∷ terms) rows z f l ends begins = ends_weaker (λ w. w ≡ Generator kind.end) (IsPlace a kind.places kind.end) (λ w same xs g. ap (eval a xs) same) (t ∷ u ∷ terms) (l (omega arith))

  -- where a least climb has more than one row, no earlier place has the vector of the end
  pub end_is_first : (start end : ℕ) (rows : List ℕ) → IsRowOf a kind vectors (Generator 0) start → IsRowOf a kind vectors (Generator kind.end) end
      → IsLeastClimb allowed even odd start end rows → 1 < length rows → (j : ℕ) → j < kind.end
      → vector_of a kind.patterns (Generator j) ≡ vector_of a kind.patterns (Generator kind.end) → ⊥
  end_is_first start end rows s e h more j l same =
      let last = k.end in
      let first : 0 < kind.places = omega (arith, last) in
      let zero_same = same_vectors a kind 0 kind.end k first k.end (one_element a kind j k l same) in
      let both : start ≡ end = c.once start end (vector_of a kind.patterns (Generator kind.end)) (s.stands ∙ ap Some zero_same) e.stands in
      let few : length rows ≤ 1 = h.least (start ∷ []) (record { begins = refl; allows = (first_allowed rows h.climb.begins h.climb.allows, tt); joined = tt }) both in
      omega (arith, more, few)
    where
      first_allowed : (rows : List ℕ) → BeginsWith (λ i. i ≡ start) rows → AllByRecursion (IsAllowed allowed) rows → IsAllowed allowed start
      first_allowed [] b w = absurd b
      first_allowed (i ∷ rows) b w = subst (IsAllowed allowed) b w.0

  -- where no climb leads to the end, there is no chain
  pub no_chain : (start end : ℕ) → IsRowOf a kind vectors (Generator 0) start → IsRowOf a kind vectors (Generator kind.end) end
      → ((rows : List ℕ) → IsClimb allowed even odd start rows → EndsWith (λ i. i ≡ end) rows → ⊥) → (terms : List Tree) → IsChain a kind terms → ⊥
  no_chain start end s e none terms d =
      let o = climb_of_beginning start terms end s d.beginning (chain_ends terms end e d) (row_low (Generator kind.end) end e) in
      none o.rows o.climb o.ends

  -- terms for rows, of which the first is generator 0
  record AreTermsFrom (rows : List ℕ) : Type 0 where
    terms : List Tree
    are : AllZip (IsRowOf a kind vectors) terms rows
    first : BeginsWith (IsPlace a kind.places 0) terms

  terms_from : (start : ℕ) (rows : List ℕ) → IsRowOf a kind vectors (Generator 0) start → IsClimb allowed even odd start rows → AreTermsFrom rows
  terms_from start [] s h = absurd h.begins
  terms_from start (i ∷ rows) s h =
      let rest = terms_for rows h.allows.1 in
      record { terms = Generator 0 ∷ rest.0; are = (subst (IsRowOf a kind vectors (Generator 0)) (sym h.begins) s, rest.1); first = λ xs g. refl }
    where
      allowed_within : (i : ℕ) → IsAllowed allowed i → i < length vectors
      allowed_within i w = ⊎_elim (λ low. low) (λ past. absurd (false≢true (sym (get_or_past allowed i false (let n = c.count in omega arith)) ∙ w))) (cases_lt i (length vectors))

      terms_for : (rows : List ℕ) → AllByRecursion (IsAllowed allowed) rows → (terms : List Tree) × AllZip (IsRowOf a kind vectors) terms rows
      terms_for [] w = ([], tt)
      terms_for (i ∷ rows) w =
          let one = term_of_row i (allowed_within i w.0) in
          let rest = terms_for rows w.1 in
          (one.0 ∷ rest.0, (one.1, rest.1))

  -- some beginning, of which the last term has an index of this parity, leads to the vector
  pub record IsBegun (side : Bool) (v : Vector) : Type 0 where
    pub terms : List Tree
    pub beginning : IsBeginning a kind terms
    pub parity : ends_even terms ≡ side
    pub reaches : EndsWith (λ t. vector_of a kind.patterns t ≡ v) terms

  pub begun_from_climbed : (start : ℕ) (side : Bool) (i : ℕ) (v : Vector) → IsRowOf a kind vectors (Generator 0) start → slice_get vectors i ≡ Some v → IsClimbed allowed even odd start side i → IsBegun side v
  begun_from_climbed start side i v s at h =
      let t = terms_from start h.rows s h.climb in
      record {
        terms = t.terms;
        beginning = beginning_of_climb start t.terms h.rows h.climb t.are t.first;
        parity = even_zip (IsRowOf a kind vectors) t.terms h.rows t.are ∙ h.parity;
        reaches = ends_unzip (IsRowOf a kind vectors) (λ u. vector_of a kind.patterns u ≡ v) (λ j. j ≡ i) (λ u j r same. same_Some _ _ (sym r.stands ∙ ap (slice_get vectors) same ∙ at)) t.terms h.rows t.are h.ends;
      }

  pub climbed_from_begun : (start : ℕ) (side : Bool) (i : ℕ) (v : Vector) → IsRowOf a kind vectors (Generator 0) start → slice_get vectors i ≡ Some v → IsBegun side v → IsClimbed allowed even odd start side i
  climbed_from_begun start side i v s at b =
      let here : get_or vectors i [] ≡ v = get_or_from_slice_get vectors i v [] at in
      let o =
      climb_of_beginning start b.terms i s b.beginning
      (ends_weaker (λ t. vector_of a kind.patterns t ≡ v) (λ t. vector_of a kind.patterns t ≡ get_or vectors i []) (λ t e. e ∙ sym here) b.terms
      b.reaches)
      (slice_get_within vectors i v at) in
      record { rows = o.rows; climb = o.climb; parity = sym (even_zip (IsRowOf a kind vectors) b.terms o.rows o.are) ∙ b.parity; ends = o.ends }

  -- the row is reached at an index that is told among the even ones
  pub evens_reached : (start : ℕ) (i : ℕ) (v : Vector) → IsRowOf a kind vectors (Generator 0) start → slice_get vectors i ≡ Some v
      → IsReached a kind true v ↔ (IsClimbed allowed even odd start true i ⊎ (kind.by_parity ≡ false) × IsClimbed allowed even odd start false i)
  evens_reached start i v s at = (
    λ r. split r (ends_even r.terms) refl,
    λ m. ⊎_elim
        (λ w. let b = begun_from_climbed start true i v s at w in record { terms = b.terms; beginning = b.beginning; parity = ap (λ x. x || not kind.by_parity) b.parity; reaches = b.reaches })
        (λ w. let b = begun_from_climbed start false i v s at w.1 in record { terms = b.terms; beginning = b.beginning; parity = ap (λ x. x || not kind.by_parity) b.parity ∙ ap not w.0; reaches = b.reaches })
        m,
  )
    where
      off : (x : Bool) → not x ≡ true → x ≡ false
      off true e = sym e
      off false e = refl

      split : (r : IsReached a kind true v) (side : Bool) → ends_even r.terms ≡ side → IsClimbed allowed even odd start true i ⊎ (kind.by_parity ≡ false) × IsClimbed allowed even odd start false i
      split r true e = inl (climbed_from_begun start true i v s at (record { terms = r.terms; beginning = r.beginning; parity = e; reaches = r.reaches }))
      split r false e = inr (off kind.by_parity (ap (λ x. x || not kind.by_parity) (sym e) ∙ r.parity), climbed_from_begun start false i v s at (record { terms = r.terms; beginning = r.beginning; parity = e; reaches = r.reaches }))

  -- and at one that is told among the odd ones
  pub odds_reached : (start : ℕ) (i : ℕ) (v : Vector) → IsRowOf a kind vectors (Generator 0) start → slice_get vectors i ≡ Some v → IsReached a kind false v ↔ ((kind.by_parity ≡ true) × IsClimbed allowed even odd start false i)
  odds_reached start i v s at = (
    λ r. split r (ends_even r.terms) refl,
    λ w. let b = begun_from_climbed start false i v s at w.1 in record { terms = b.terms; beginning = b.beginning; parity = ap (λ x. x || not kind.by_parity) b.parity ∙ ap not w.0; reaches = b.reaches },
  )
    where
      on : (x : Bool) → not x ≡ false → x ≡ true
      on true e = refl
      on false e = sym e

      split : (r : IsReached a kind false v) (side : Bool) → ends_even r.terms ≡ side → (kind.by_parity ≡ true) × IsClimbed allowed even odd start false i
      split r true e = absurd (false≢true (sym r.parity ∙ ap (λ x. x || not kind.by_parity) e))
      split r false e = (on kind.by_parity (ap (λ x. x || not kind.by_parity) (sym e) ∙ r.parity), climbed_from_begun start false i v s at (record { terms = r.terms; beginning = r.beginning; parity = e; reaches = r.reaches }))
