-- Chains from the search over rows.
use Rattle.std.proofs.Common.{◌≡◌, ℕ, zero, suc, ◌+◌, ◌-◌, ◌<◌, Bool, List, [], ◌∷◌, length, map, refl, sym, ap, ◌∙◌, subst, arith, Some, Result, Ok, Err, ⊎_elim, inl, inr}
use Rattle.std.specs.Prelude.{◌↔◌, Contains, slice_index, slice_get, IfOk}
use Rattle.std.specs.declared.alloc.AllocError.{AllocError}
use Rattle.std.specs.List.{AllByRecursion, AllZip, range_with_len}
use Rattle.std.proofs.lemmas.List.Elements.{All-from_recursion}
use Rattle.std.proofs.lemmas.List.FromFn.{length-range_with_len, get_or-range_with_len}
use Rattle.std.proofs.lemmas.List.{length-map}
use Rattle.std.proofs.lemmas.Option.{slice_get_within, get_or_from_slice_get, slice_get-get_or, same_Some}
use Rattle.std.proofs.lemmas.Bool.{cases_lt, cases_eq}
use Rattle.ua_table.specs.declared.origins.Origin.TheVariants.{Gen}
use Rattle.ua_table.specs.Algebras.{Vector, FiniteAlgebra, Product, arities, arities_of, IsIncreasing}
use Rattle.ua_table.specs.Terms.{Generator}
use Rattle.ua_table.specs.Generated.{Sg}
use Rattle.ua_table.specs.Listings.{Row, vectors_of, IsClosedListing}
use Rattle.ua_table.specs.Orders.{IsSerialListing}
use Rattle.ua_table.proofs.Lists.{mapped_at, found, all_from_contains, all_from_places}
use Rattle.ua_term.specs.Steps.{StepList}
use Rattle.ua_climb.specs.declared.ladders.Climb.{Climb}
use Rattle.ua_table.specs.Sequences.{BeginsWith, EndsWith}
use Rattle.ua_climb.specs.Ladders.{LinkLists, IsAllowed, IsLeastClimb, HasNoClimb}
use Rattle.ua_climb.specs.Climbs.{TellsClimb}
use Rattle.ua_climb.proofs.ClimbLaws.{marked_low}
use Rattle.ua_identity.specs.Identities.{VariablePattern, TermIdentity, Satisfies}
use Rattle.ua_table.proofs.GeneratedLaws.{generator_in}
use Rattle.ua_table.proofs.FrameLaws.{arities_of_power}
use Rattle.ua_identity.specs.Chains.{Link, ChainKind, power_of, generators_of}
use Rattle.ua_identity.specs.Kinds.{IsKind}
use Rattle.ua_identity.specs.Patterns.{all_fillings, vector_of, place_vector}
use Rattle.ua_chain.specs.inner.Charts.{IsRowOf, IsChart}
use Rattle.ua_identity.proofs.ChainLaws.{generator_count, first_is_own}
use Rattle.ua_chain.proofs.ChartLaws.{least_chain, no_chain, evens_reached, odds_reached, end_is_first}
use Rattle.ua_identity.specs.declared.kinds.PatternPair.{PatternPair}
use Rattle.ua_identity.specs.KindTables.{link_of, pattern_at}
use Rattle.ua_chain.specs.inner.RowsOf.{AreOwnRows, AreLinksAt, HaveWidth}
use Rattle.ua_chain.specs.inner.ClimbsIn.{IsClimbIn}
use Rattle.ua_chain.specs.Answers.{term_of, AreTermSteps, IsGeneratorStep, AreChainSteps, TellsNoChain, AreStepsOfRow, AreSerialTerms}
use Rattle.ua_chain.specs.inner.Closures.{IsClosureOf, AreStepsAt, AreEvenNumbers, AreOddNumbers, generator_step}
use Rattle.ua_close.specs.Needed.{AreStepsFor}
use Rattle.ua_chain.proofs.RowLaws.{chart_from, have_width, own_both}
use Rattle.ua_chain.proofs.AnswerLaws.{AreStepsOf, step_row}
use Rattle.ua_chain.proofs.SerialLaws.{serial_generator, generator_steps_for}

pub climb_in_from : (n : ℕ) (kind : ChainKind) (vs : List Vector) (start end : ℕ) (allowed lent : List Bool) (even odd : LinkLists)
    (ep op : PatternPair) (r : Result Climb AllocError)
    → AreOwnRows n kind vs allowed → lent ≡ allowed → kind.even ≡ link_of kind.patterns ep → kind.odd ≡ link_of kind.patterns op
    → AreLinksAt n kind.patterns ep vs even → AreLinksAt n kind.patterns op vs odd → ep.first < length kind.patterns
    → ep.second < length kind.patterns → op.first < length kind.patterns → op.second < length kind.patterns
    → IfOk r (TellsClimb lent even odd start end) → IfOk r (IsClimbIn n kind vs start end)
climb_in_from n kind vs start end allowed lent even odd ep op (Ok climb) own same ee eo le lo ef es of os h = record {
  allowed = allowed;
  even = even;
  odd = odd;
  even_pair = ep;
  odd_pair = op;
  own = own;
  even_is = ee;
  odd_is = eo;
  even_links = le;
  odd_links = lo;
  even_first = ef;
  even_second = es;
  odd_first = of;
  odd_second = os;
  climbs = subst (λ (xs : List Bool). TellsClimb xs even odd start end climb) same h;
}
climb_in_from n kind vs start end allowed lent even odd ep op (Err e) own same ee eo le lo ef es of os h = tt

-- ---- the chart of a search

same_variables : (ps : List VariablePattern) (l : Link) (pair : PatternPair) → l ≡ link_of ps pair → l.pattern.variables ≡ l.next.variables → (pattern_at ps pair.first).variables ≡ (pattern_at ps pair.second).variables
same_variables ps l pair e same = ap (λ (k : Link). k.pattern.variables) (sym e) ∙ same ∙ ap (λ (k : Link). k.next.variables) e

-- a closed listing lists what the terms of the kind give
pub record IsClosedFor (a : FiniteAlgebra) (kind : ChainKind) (vs : List Vector) : Type 0 where
  pub is_kind : IsKind kind
  pub wide : 0 < length (all_fillings a.size kind.patterns)
  pub exact : (v : Vector) → Contains vs v ↔ Sg (power_of a kind) (generators_of a kind) v
  pub increasing : IsIncreasing vs

pub chart_of : (a : FiniteAlgebra) (kind : ChainKind) (vs : List Vector) (start end : ℕ) (climb : Climb) → IsClosedFor a kind vs → (h : IsClimbIn a.size kind vs start end climb) → IsChart a kind vs h.allowed h.even h.odd
chart_of a kind vs start end climb c h =
    chart_from a kind vs h.allowed h.even h.odd h.even_pair h.odd_pair c.exact c.increasing h.own
    (record { link_is = h.even_is; first = h.even_first; second = h.even_second; same = same_variables kind.patterns kind.even h.even_pair h.even_is c.is_kind.even.same })
    (record { link_is = h.odd_is; first = h.odd_first; second = h.odd_second; same = same_variables kind.patterns kind.odd h.odd_pair h.odd_is c.is_kind.odd.same })
    h.even_links h.odd_links

-- ---- lists by index

zip_by_index : {X : Type 0} (R : X → ℕ → Type 0) (xs : List X) (ys : List ℕ) → length xs ≡ length ys → ((j : ℕ) (x : X) → slice_get xs j ≡ Some x → R x (slice_index ys j)) → AllZip R xs ys
zip_by_index R [] [] e h = tt
zip_by_index R [] (y ∷ ys) e h = absurd (omega (arith, e))
zip_by_index R (x ∷ xs) [] e h = absurd (omega (arith, e))
zip_by_index R (x ∷ xs) (y ∷ ys) e h = (h 0 x refl, zip_by_index R xs ys (omega (arith, e)) (λ j w g. h (suc j) w g))

map_zip : {X Y : Type 0} (R : Y → ℕ → Type 0) (f : X → Y) (xs : List X) (ys : List ℕ) → AllZip (λ x y. R (f x) y) xs ys → AllZip R (map f xs) ys
map_zip R f [] [] h = tt
map_zip R f [] (y ∷ ys) h = absurd h
map_zip R f (x ∷ xs) [] h = absurd h
map_zip R f (x ∷ xs) (y ∷ ys) h = (h.0, map_zip R f xs ys h.1)

weaker_zip : {X : Type 0} (R S : X → ℕ → Type 0) → ((x : X) (y : ℕ) → R x y → S x y) → (xs : List X) (ys : List ℕ) → AllZip R xs ys → AllZip S xs ys
weaker_zip R S each [] [] h = tt
weaker_zip R S each [] (y ∷ ys) h = absurd h
weaker_zip R S each (x ∷ xs) [] h = absurd h
weaker_zip R S each (x ∷ xs) (y ∷ ys) h = (each x y h.0, weaker_zip R S each xs ys h.1)

begins_by_index : {X : Type 0} (P : X → Type 0) (xs : List X) → 0 < length xs → ((x : X) → slice_get xs 0 ≡ Some x → P x) → BeginsWith P xs
begins_by_index P [] l h = absurd (omega (arith, l))
begins_by_index P (x ∷ xs) l h = h x refl

ends_by_index : {X : Type 0} (P : X → Type 0) (xs : List X) → 0 < length xs → ((x : X) → slice_get xs (length xs - 1) ≡ Some x → P x) → EndsWith P xs
ends_by_index P [] l h = absurd (omega (arith, l))
ends_by_index P (x ∷ []) l h = h x refl
ends_by_index P (x ∷ y ∷ xs) l h =
    let e : length xs + 1 ≡ length xs + 1 = refl in
    ends_by_index P (y ∷ xs) (omega arith) (λ w g.
    let next : suc (suc (length xs)) - 1 ≡ suc (suc (length xs) - 1) = omega arith in
    h w (ap (slice_get (x ∷ y ∷ xs)) next ∙ g))

-- the last number of a list
last_is : (ys : List ℕ) (e : ℕ) → EndsWith (λ i. i ≡ e) ys → slice_index ys (length ys - 1) ≡ e
last_is [] e h = absurd h
last_is (y ∷ []) e h = h
last_is (y ∷ z ∷ ys) e h =
    let next : suc (suc (length ys)) - 1 ≡ suc (suc (length ys) - 1) = omega arith in
    ap (slice_index (y ∷ z ∷ ys)) next ∙ last_is (z ∷ ys) e h

first_is : (ys : List ℕ) (s : ℕ) → BeginsWith (λ i. i ≡ s) ys → slice_index ys 0 ≡ s
first_is [] s h = absurd h
first_is (y ∷ ys) s h = h

some_rows : (ys : List ℕ) (s : ℕ) → BeginsWith (λ i. i ≡ s) ys → 0 < length ys
some_rows [] s h = absurd h
some_rows (y ∷ ys) s h = omega arith

begins_map : {X Y : Type 0} (P : Y → Type 0) (f : X → Y) (xs : List X) → BeginsWith (λ x. P (f x)) xs → BeginsWith P (map f xs)
begins_map P f [] h = absurd h
begins_map P f (x ∷ xs) h = h

ends_map : {X Y : Type 0} (P : Y → Type 0) (f : X → Y) (xs : List X) → EndsWith (λ x. P (f x)) xs → EndsWith P (map f xs)
ends_map P f [] h = absurd h
ends_map P f (x ∷ []) h = h
ends_map P f (x ∷ y ∷ xs) h = ends_map P f (y ∷ xs) h

-- ---- generators

-- generator j is the vector of place j
pub generator_at : (a : FiniteAlgebra) (kind : ChainKind) (j : ℕ) → j < kind.places → slice_get (generators_of a kind) j ≡ Some (vector_of a kind.patterns (Generator j))
generator_at a kind j l =
    mapped_at (place_vector (all_fillings a.size kind.patterns)) (range_with_len 0 kind.places) j j
    (slice_get-get_or (range_with_len 0 kind.places) j 0 (let n = length-range_with_len 0 kind.places in omega (arith, l, n))
    ∙ ap Some (get_or-range_with_len 0 kind.places j 0 l ∙ (omega arith)))

-- the row of a generator
pub generator_row : (a : FiniteAlgebra) (kind : ChainKind) (vs : List Vector) (j i : ℕ) (v : Vector) → j < kind.places → slice_get (generators_of a kind) j ≡ Some v → slice_get vs i ≡ Some v → IsRowOf a kind vs (Generator j) i
generator_row a kind vs j i v l at here = record { is_term = l; stands = here ∙ sym at ∙ generator_at a kind j l }

-- ---- the kind's closure

pub arities_made : (a : FiniteAlgebra) (kind : ChainKind) (p : Product) (gens : List Vector) → IsClosureOf a kind p gens → arities p ≡ arities_of a
arities_made a kind p gens c = ap arities c.product_is ∙ arities_of_power a (length (all_fillings a.size kind.patterns)) c.wide

pub closed_for : (a : FiniteAlgebra) (kind : ChainKind) (p : Product) (gens : List Vector) (b : ℕ) (list : List Row) → IsClosureOf a kind p gens
    → IsClosedListing p gens b list → IsClosedListing (power_of a kind) (generators_of a kind) b list
closed_for a kind p gens b list c h = subst (λ (q : Product). IsClosedListing q (generators_of a kind) b list) c.product_is (subst (λ (gs : List Vector). IsClosedListing p gs b list) c.gens_are h)

pub serial_for : (a : FiniteAlgebra) (kind : ChainKind) (p : Product) (gens : List Vector) (list : List Row) → IsClosureOf a kind p gens → IsSerialListing p gens list → IsSerialListing (power_of a kind) (generators_of a kind) list
serial_for a kind p gens list c h = subst (λ (q : Product). IsSerialListing q (generators_of a kind) list) c.product_is (subst (λ (gs : List Vector). IsSerialListing p gs list) c.gens_are h)

pub row_within : (list : List Row) (i : ℕ) (v : Vector) → slice_get (vectors_of list) i ≡ Some v → i < length list
row_within list i v e = let l = slice_get_within (vectors_of list) i v e in let n = length-map list (λ (r : Row). r.vector) in omega (arith, l, n)

-- the rows of a climb are rows
allowed_below : (allowed : List Bool) (rows : List ℕ) (n : ℕ) → length allowed ≡ n → AllByRecursion (IsAllowed allowed) rows → AllByRecursion (λ i. i < n) rows
allowed_below allowed [] n e h = tt
allowed_below allowed (i ∷ rows) n e h = (let l = marked_low allowed i h.0 in omega (arith, l, e), allowed_below allowed rows n e h.1)

-- the step of a generator
generator_step_of : (a : FiniteAlgebra) (kind : ChainKind) (p : Product) (gens vs : List Vector) (s : StepList) (j i : ℕ) → IsClosureOf a kind p gens
    → s ≡ generator_step p gens j → IsRowOf a kind vs (Generator j) i → AreStepsOf a kind vs s i
generator_step_of a kind p gens vs s j i c e r =
    let arity : arities p ≡ arities_of a = arities_made a kind p gens c in
    let count : length gens ≡ kind.places = ap length c.gens_are ∙ generator_count a kind.patterns kind.places in
    subst (λ (x : StepList). AreStepsOf a kind vs x i) (sym e) (record { steps = record { arities_are = arity; places_are = count; steps = (let low = r.is_term in omega (arith, low, count), tt); some = omega arith }; row = r })

positive : (j : ℕ) → (j ≡ 0 → ⊥) → 0 < j
positive zero n = absurd (n refl)
positive (suc j) n = omega arith

-- ---- a chain along the rows of a least climb

module _ (a : FiniteAlgebra) (kind : ChainKind) (p : Product) (gens : List Vector) (list : List Row) (allowed : List Bool) (even odd : LinkLists)
    (start end : ℕ) (rows : List ℕ) (steps : List StepList) (c : IsClosureOf a kind p gens) (chart : IsChart a kind (vectors_of list) allowed even odd)
    (rs : IsRowOf a kind (vectors_of list) (Generator 0) start) (re : IsRowOf a kind (vectors_of list) (Generator kind.end) end)
    (h : IsLeastClimb allowed even odd start end rows) (last_place : kind.end ≡ length gens - 1) (count : length steps ≡ length rows)
    (at : (j : ℕ) (s : StepList) → slice_get steps j ≡ Some s → AreStepsAt p gens list rows (length gens - 1) j s) where
  some : 0 < length steps
  some = let n = some_rows rows start h.climb.begins in omega (arith, n, count)

  row_low : (j : ℕ) → j < length rows → slice_index rows j < length (vectors_of list)
  row_low j l = All-from_recursion (λ i. i < length (vectors_of list)) rows (allowed_below allowed rows (length (vectors_of list)) chart.count h.climb.allows) j 0 l

  first_step : (s : StepList) → slice_get steps 0 ≡ Some s → s ≡ generator_step p gens 0
  first_step s e = (at 0 s e).first refl

  step_last : (j : ℕ) (s : StepList) → slice_get steps j ≡ Some s → 0 < j → j + 1 ≡ length rows → s ≡ generator_step p gens kind.end
  step_last j s e l last = (at j s e).last l last ∙ ap (generator_step p gens) (sym last_place)

  last_step : (s : StepList) → 1 < length steps → slice_get steps (length steps - 1) ≡ Some s → s ≡ generator_step p gens kind.end
  last_step s l e = step_last (length steps - 1) s e (omega (arith, l)) (omega (arith, l, count))

  last_row : (j : ℕ) → j + 1 ≡ length rows → slice_index rows j ≡ end
  last_row j l = (let top : j ≡ length rows - 1 = omega (arith, l) in ap (slice_index rows) top) ∙ last_is rows end h.ends

  inner_steps : (j : ℕ) (s : StepList) → slice_get steps j ≡ Some s → 0 < j → j + 1 < length rows → AreStepsOf a kind (vectors_of list) s (slice_index rows j)
  inner_steps j s e l inner =
      let r = (at j s e).inner l inner in
      let v = found (vectors_of list) (slice_index rows j) (row_low j (omega (arith, inner))) in
      step_row a kind p gens (vectors_of list) s (slice_index rows j) v.0 c v.1 (r.value v.0 v.1)

  each_steps : (j : ℕ) (s : StepList) → slice_get steps j ≡ Some s → AreStepsOf a kind (vectors_of list) s (slice_index rows j)
  each_steps j s e =
      let low = slice_get_within steps j s e in
      ⊎_elim
      (λ (zero_is : j ≡ 0). subst (λ i. AreStepsOf a kind (vectors_of list) s (slice_index rows i)) (sym zero_is)
      (generator_step_of a kind p gens (vectors_of list) s 0 (slice_index rows 0) c (first_step s (ap (slice_get steps) (sym zero_is) ∙ e))
      (subst (IsRowOf a kind (vectors_of list) (Generator 0)) (sym (first_is rows start h.climb.begins)) rs)))
      (λ more. ⊎_elim
      (λ (inner : j + 1 < length rows). inner_steps j s e (positive j more) inner)
      (λ ending.
      let top : j + 1 ≡ length rows = omega (arith, ending, low, count) in
      generator_step_of a kind p gens (vectors_of list) s kind.end (slice_index rows j) c (step_last j s e (positive j more) top) (subst (IsRowOf a kind (vectors_of list) (Generator kind.end)) (sym (last_row j top)) re))
      (cases_lt (j + 1) (length rows)))
      (cases_eq j 0)

  zipped : AllZip (λ t i. IsRowOf a kind (vectors_of list) t i) (map term_of steps) rows
  zipped =
      map_zip (IsRowOf a kind (vectors_of list)) term_of steps rows
      (weaker_zip (AreStepsOf a kind (vectors_of list)) (λ s i. IsRowOf a kind (vectors_of list) (term_of s) i) (λ s i x. x.row) steps rows (zip_by_index (AreStepsOf a kind (vectors_of list)) steps rows count each_steps))

  pub yes_answer : AreChainSteps a kind steps
  yes_answer = record {
    each = all_from_places (AreTermSteps a kind) steps (λ j s e. (each_steps j s e).steps);
    least = least_chain a kind (vectors_of list) allowed even odd c.is_kind c.wide chart start end rows (map term_of steps) rs re h zipped
        (begins_map (λ t. t ≡ Generator 0) term_of steps (begins_by_index (λ s. term_of s ≡ Generator 0) steps some (λ s e. ap term_of (first_step s e))))
        (λ l. ends_map (λ t. t ≡ Generator kind.end) term_of steps (ends_by_index (λ s. term_of s ≡ Generator kind.end) steps some (λ s e. ap term_of (last_step s (let n = length-map steps term_of in omega (arith, n, l)) e))));
    first = begins_by_index (IsGeneratorStep 0) steps some (λ s e. ap (λ (x : StepList). x.items) (first_step s e));
    last = λ l. ends_by_index (IsGeneratorStep kind.end) steps some (λ s e. ap (λ (x : StepList). x.items) (last_step s l e));
  }

  -- ---- with one worker

  -- the row of a generator that no earlier one equals has the generator as its steps
  generator_serial : (j i : ℕ) → IsSerialListing p gens list → j < kind.places → IsRowOf a kind (vectors_of list) (Generator j) i
      → ((k : ℕ) → k < j → vector_of a kind.patterns (Generator k) ≡ vector_of a kind.patterns (Generator j) → ⊥)
      → AreStepsFor (arities_of a) list i (Gen j ∷ [])
  generator_serial j i serial l r first =
      let v = vector_of a kind.patterns (Generator j) in
      let stands : (k : ℕ) → k < kind.places → slice_get gens k ≡ Some (vector_of a kind.patterns (Generator k)) = λ k low. ap (λ (gs : List Vector). slice_get gs k) c.gens_are ∙ generator_at a kind k low in
      let origin =
      serial_generator p gens list i j v serial r.stands (stands j l)
      (λ k low e.
      first k low
      (same_Some (vector_of a kind.patterns (Generator k)) (vector_of a kind.patterns (Generator j))
      (sym (stands k (omega (arith, low, l))) ∙ e))) in
      generator_steps_for (arities_of a) list i j (row_within list i v r.stands) origin

  each_serial : IsSerialListing p gens list → (j : ℕ) (s : StepList) → slice_get steps j ≡ Some s → AreStepsOfRow (arities_of a) list s
  each_serial serial j s e =
      let low = slice_get_within steps j s e in
      let places = c.is_kind.end in
      ⊎_elim
      (λ (zero_is : j ≡ 0). record {
        place = start;
        steps = subst (λ (x : StepList). AreStepsFor (arities_of a) list start x.items) (sym ((at j s e).first zero_is)) (generator_serial 0 start serial (omega (arith, places)) rs (λ k none. absurd (omega (arith, none))));
      })
      (λ more. ⊎_elim
      (λ (inner : j + 1 < length rows). record {
        place = slice_index rows j;
        steps = subst (λ (ks : List ℕ). AreStepsFor ks list (slice_index rows j) s.items) (arities_made a kind p gens c) ((at j s e).inner (positive j more) inner).needed;
      })
      (λ ending.
      let top : j + 1 ≡ length rows = omega (arith, ending, low, count) in
      let many : 1 < length rows = (let l = positive j more in omega (arith, l, top)) in
      record {
        place = end;
        steps =
            subst (λ (x : StepList). AreStepsFor (arities_of a) list end x.items) (sym (step_last j s e (positive j more) top))
            (generator_serial kind.end end serial c.is_kind.end re
            (end_is_first a kind (vectors_of list) allowed even odd c.is_kind c.wide chart start end rows rs re h many));
      })
      (cases_lt (j + 1) (length rows)))
      (cases_eq j 0)

  pub serial_answer : (b : ℕ) → IsClosedListing p gens b list → IsSerialListing p gens list → AreSerialTerms a kind b steps
  serial_answer b closed serial = record {
    rows = list;
    closed = closed_for a kind p gens b list c closed;
    serial = serial_for a kind p gens list c serial;
    terms = all_from_places (AreStepsOfRow (arities_of a) list) steps (each_serial serial);
  }

pub no_answer : (a : FiniteAlgebra) (kind : ChainKind) (b : ℕ) (list : List Row) (allowed : List Bool) (even odd : LinkLists) (start end : ℕ)
    (at_even at_odd : List Bool) (evens odds : List ℕ)
    → IsKind kind → 0 < length (all_fillings a.size kind.patterns) → IsClosedListing (power_of a kind) (generators_of a kind) b list
    → IsChart a kind (vectors_of list) allowed even odd → IsRowOf a kind (vectors_of list) (Generator 0) start
    → IsRowOf a kind (vectors_of list) (Generator kind.end) end → HasNoClimb allowed even odd start end at_even at_odd
    → AreEvenNumbers kind.by_parity at_even at_odd evens → AreOddNumbers kind.by_parity at_odd odds → TellsNoChain a kind b list evens odds
no_answer a kind b list allowed even odd start end at_even at_odd evens odds k wide closed chart rs re h he ho =
    let vs = vectors_of list in
    let even_long : length at_even ≡ length vs = h.even_count ∙ chart.count in
    let odd_long : length at_odd ≡ length vs = h.odd_count ∙ chart.count in
    record {
      none = no_chain a kind vs allowed even odd k wide chart start end rs re h.none;
      closed = closed;
      evens = record {
        ascending = he.ascending;
        exact = λ i v at.
            let r = evens_reached a kind vs allowed even odd k wide chart start i v rs at in (
              λ c. r.1 (⊎_elim (λ m. inl ((h.evens i).0 m)) (λ m. inr (m.0, (h.odds i).0 m.1)) ((he.exact i).0 c)),
              λ w. (he.exact i).1 (⊎_elim (λ m. inl ((h.evens i).1 m)) (λ m. inr (m.0, (h.odds i).1 m.1)) (r.0 w)),
            );
        within = all_from_contains (λ i. i < length vs) evens (λ i c. ⊎_elim (λ m. let l = marked_low at_even i m in omega (arith, l, even_long)) (λ m. let l = marked_low at_odd i m.1 in omega (arith, l, odd_long)) ((he.exact i).0 c));
      };
      odds = record {
        ascending = ho.ascending;
        exact = λ i v at.
            let r = odds_reached a kind vs allowed even odd k wide chart start i v rs at in (
              λ c. let m = (ho.exact i).0 c in r.1 (m.0, (h.odds i).0 m.1),
              λ w. let m = r.0 w in (ho.exact i).1 (m.0, (h.odds i).1 m.1),
            );
        within = all_from_contains (λ i. i < length vs) odds (λ i c. let m = (ho.exact i).0 c in let l = marked_low at_odd i m.1 in omega (arith, l, odd_long));
      };
    }

-- ---- a closed listing of the kind's product

pub is_closed_for : (a : FiniteAlgebra) (kind : ChainKind) (p : Product) (gens : List Vector) (b : ℕ) (list : List Row) → IsClosureOf a kind p gens → IsClosedListing p gens b list → IsClosedFor a kind (vectors_of list)
is_closed_for a kind p gens b list c h =
    let closed = closed_for a kind p gens b list c h in
    record { is_kind = c.is_kind; wide = c.wide; exact = closed.exact; increasing = closed.listing.increasing }

-- a generator is a row
pub generator_there : (p : Product) (gens : List Vector) (b : ℕ) (list : List Row) (j : ℕ) (v : Vector) → IsClosedListing p gens b list → slice_get gens j ≡ Some v → Contains (vectors_of list) v
generator_there p gens b list j v h e =
    (h.exact v).1 (subst (Sg p gens) (get_or_from_slice_get gens j v [] e) (generator_in p gens j (slice_get_within gens j v e)))

pub widths_of : (a : FiniteAlgebra) (kind : ChainKind) (vs : List Vector) (size : ℕ) → IsClosedFor a kind vs → size ≡ a.size → HaveWidth size kind.patterns vs
widths_of a kind vs size c e = subst (λ n. HaveWidth n kind.patterns vs) (sym e) (have_width a kind vs c.is_kind c.wide (λ v m. (c.exact v).0 m))

-- the row of generator 0 is allowed
pub start_allowed : (a : FiniteAlgebra) (kind : ChainKind) (vs : List Vector) (size start : ℕ) (allowed : List Bool) → IsKind kind → size ≡ a.size
    → IsRowOf a kind vs (Generator 0) start → AreOwnRows size kind vs allowed → IsAllowed allowed start
start_allowed a kind vs size start allowed k e r own =
    let here = subst (λ n. AreOwnRows n kind vs allowed) e own in
    let both = own_both a kind.patterns here.number (Generator 0) here.named in
    (here.rows start (vector_of a kind.patterns (Generator 0)) r.stands).1 (both.1 (subst (λ (is : List TermIdentity). AllByRecursion (Satisfies a (Generator 0)) is) here.own_is (first_is_own a kind k)))

pub rows_within : (size : ℕ) (kind : ChainKind) (list : List Row) (start end : ℕ) (climb : Climb) (rows : List ℕ)
    → IsClimbIn size kind (vectors_of list) start end climb
    → ((h : IsClimbIn size kind (vectors_of list) start end climb) → IsLeastClimb h.allowed h.even h.odd start end rows)
    → AllByRecursion (λ i. i < length list) rows
rows_within size kind list start end climb rows h least =
    let n = length-map list (λ (r : Row). r.vector) in
    let count = h.own.count in
    allowed_below h.allowed rows (length list) (omega (arith, n, count)) (least h).climb.allows

-- the row of the last generator
pub end_row : (a : FiniteAlgebra) (kind : ChainKind) (p : Product) (gens vs : List Vector) (i : ℕ) (v : Vector) (j : ℕ) → IsClosureOf a kind p gens
    → kind.end ≡ length gens - 1 → j ≡ length gens - 1 → slice_get gens j ≡ Some v → slice_get vs i ≡ Some v
    → IsRowOf a kind vs (Generator kind.end) i
end_row a kind p gens vs i v j c end same at here =
    generator_row a kind vs kind.end i v c.is_kind.end (ap (λ (gs : List Vector). slice_get gs kind.end) (sym c.gens_are) ∙ ap (slice_get gens) (end ∙ sym same) ∙ at) here

pub even_lent : (by_parity told : Bool) (at_even at_odd lent_even lent_odd : List Bool) (numbers : List ℕ) → told ≡ by_parity → lent_even ≡ at_even
    → lent_odd ≡ at_odd → AreEvenNumbers told lent_even lent_odd numbers → AreEvenNumbers by_parity at_even at_odd numbers
even_lent by_parity told at_even at_odd lent_even lent_odd numbers e f g h =
    subst (λ (b : Bool). AreEvenNumbers b at_even at_odd numbers) e (subst (λ (xs : List Bool). AreEvenNumbers told xs at_odd numbers) f (subst (λ (xs : List Bool). AreEvenNumbers told lent_even xs numbers) g h))

pub odd_lent : (by_parity told : Bool) (at_odd lent : List Bool) (numbers : List ℕ) → told ≡ by_parity → lent ≡ at_odd → AreOddNumbers told lent numbers → AreOddNumbers by_parity at_odd numbers
odd_lent by_parity told at_odd lent numbers e g h = subst (λ (b : Bool). AreOddNumbers b at_odd numbers) e (subst (λ (xs : List Bool). AreOddNumbers told xs numbers) g h)
