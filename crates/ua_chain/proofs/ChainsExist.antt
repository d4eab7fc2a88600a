-- That a least chain is told, or that there is none: the rows of a closed listing are linked by their parts, and a least climb over them has its steps.
use Rattle.std.proofs.Common.{◌≡◌, ◌≢◌, ◌⊎◌, ◌↔◌, inl, inr, ⊎_elim, ℕ, zero, suc, ◌+◌, ◌-◌, ◌*◌, ◌^◌, ◌<◌, ◌≤◌, Bool, true, false, cond, nat_eq, Option, Some, None, List, [], ◌∷◌}
use Rattle.std.proofs.Common.{◌++◌, length, map, take, Result, Ok, Err, Vec, refl, sym, ap, ◌∙◌, subst, arith, length-append}
use Rattle.std.specs.Prelude.{Contains, slice_get, slice_index, slice_index_or}
use Rattle.std.specs.Cmp.Lexicographic.{pointwise, bytes_decides}
use Rattle.std.specs.List.{AllByRecursion, range_with_len}
use Rattle.std.specs.Option.{IfSome}
use Rattle.std.specs.declared.alloc.Global.{Global}
use Rattle.std.proofs.Math.Nat.{mul-le-mul_left}
use Rattle.std.proofs.lemmas.Bool.{cases_eq, cases_lt, false≢true}
use Rattle.std.proofs.lemmas.List.{length-map, length-replicate, take_all}
use Rattle.std.proofs.lemmas.List.Elements.{All-from_recursion, Contains-append_left, Contains-append_right}
use Rattle.std.proofs.lemmas.List.FromFn.{length-range_with_len, get_or-map-range_with_len}
use Rattle.std.proofs.lemmas.Map.Keys.{sorted_from_strictly_increasing}
use Rattle.std.proofs.lemmas.Map.Views.{length-le_from_below}
use Rattle.std.proofs.lemmas.Option.{slice_get-get_or, get_or_from_slice_get, same_Some}
use denote.RawPtr.{null_ptr}
use Rattle.ua_table.specs.declared.limits.TheConstants.{CELLS}
use Rattle.ua_table.specs.Algebras.{Vector, FiniteAlgebra, Product, IsAlgebra, IsProduct, arities}
use Rattle.ua_table.specs.Listings.{Row, vectors_of, IsClosedListing}
use Rattle.ua_table.specs.Numbering.{records}
use Rattle.ua_table.specs.Orders.{IsSerialListing}
use Rattle.ua_table.specs.Terms.{Generator}
use Rattle.ua_table.proofs.AlgebraLaws.{power_product}
use Rattle.ua_table.proofs.ListingLaws.{closed_has_no_more}
use Rattle.ua_table.proofs.Lists.{Contains-cases, Contains-none, Contains-map, Contains-slice_get, all_at, all_from_contains, mapped_at, slice_get-push_cases}
use Rattle.ua_term.specs.Assignments.{projection}
use Rattle.ua_term.specs.Steps.{StepList}
use Rattle.ua_close.specs.declared.close.Closure.{Closure}
use Rattle.ua_close.specs.declared.close.Closure.TheVariants as closures
use Rattle.ua_close.specs.declared.close.CloseError.{CloseError}
use Rattle.ua_close.specs.declared.close.CloseError.TheVariants.{Wide, OutOfMemory}
use Rattle.ua_close.specs.Answers.{Answers, IsSerialAnswer, IsWide, cells}
use Rattle.ua_close.specs.Permitted.{IsAnswerable}
use Rattle.ua_close.proofs.AnswerLaws.{wide_or}
use Rattle.ua_close.proofs.KindLaws.{one_kind}
use Rattle.ua_close.proofs.MetLaws.{vector_or}
use Rattle.ua_close.proofs.RowSteps.{steps_exist}
use Rattle.ua_climb.specs.Ladders.{LinkLists, IsAllowed, HasLeastClimb, HasReached}
use Rattle.ua_climb.proofs.ClimbLaws.{marked_low}
use Rattle.ua_climb.proofs.ClimbsExist.{bool_or, both_or, test_of, climb_exists}
use Rattle.ua_identity.specs.Chains.{ChainKind, power_of, generators_of}
use Rattle.ua_identity.specs.Identities.{VariablePattern, xxy, xyx, xyy}
use Rattle.ua_identity.specs.KindTables.{pattern_at, own_of, kind_of, IsKindTable}
use Rattle.ua_identity.specs.Kinds.{IsKind, xyyx, xxww, xyyw}
use Rattle.ua_identity.specs.Patterns.{all_fillings, vector_of}
use Rattle.ua_identity.specs.declared.kinds.PatternPair.{PatternPair}
use Rattle.ua_identity.proofs.KindLaws.{is_jonsson, is_hagemann_mitschke, is_day}
use Rattle.ua_chain.specs.declared.chains.Chain.{Chain}
use Rattle.ua_chain.specs.declared.chains.Chain.TheVariants.{Yes, No, Exceeds}
use Rattle.ua_chain.specs.declared.least_chains.NamedKind.{NamedKind}
use Rattle.ua_chain.specs.declared.least_chains.NamedKind.TheVariants.{Jonsson, HagemannMitschke, Day}
use Rattle.ua_chain.specs.Answers.{TellsChain, IsSerialChain}
use Rattle.ua_chain.specs.Names.{kind_named}
use Rattle.ua_chain.specs.Permitted.{MayChain}
use Rattle.ua_chain.specs.inner.Charts.{IsRowOf, IsChart}
use Rattle.ua_chain.specs.inner.Closures.{IsClosureOf, AreStepsAt, AreMarkedNumbers, AreEvenNumbers, AreOddNumbers, generator_step}
use Rattle.ua_chain.specs.inner.RowsOf.{part_at, HasOwnAt, AreOwnRows, AreLinksAt}
use Rattle.ua_chain.proofs.AnswerLaws.{numbers_skip, numbers_more}
use Rattle.ua_chain.proofs.ClimbInLaws.{generator_at, generator_row, generator_there, yes_answer, serial_answer, no_answer}
use Rattle.ua_chain.proofs.RowLaws.{chart_from}
use Rattle.ua_chain.proofs.VectorLaws.{generators_fit, closure_from, end_made, some_places}

-- ---- rows by their parts

-- the place of a vector among others
abbrev place_of : List Vector → Vector → ℕ
place_of [] v = 0
place_of (w ∷ ws) v = cond (pointwise nat_eq w v) 0 (suc (place_of ws v))

stands_there : (ws : List Vector) (v : Vector) → Contains ws v → slice_get ws (place_of ws v) ≡ Some v
stands_there [] v c = absurd (Contains-none v c)
stands_there (w ∷ ws) v c = by (pointwise nat_eq w v) refl (λ rest. stands_there ws v rest)
  where
    by : (same : Bool) → pointwise nat_eq w v ≡ same → (Contains ws v → slice_get ws (place_of ws v) ≡ Some v) → slice_get (w ∷ ws) (cond same 0 (suc (place_of ws v))) ≡ Some v
    by true e there = ap Some ((bytes_decides w v).0 e)
    by false e there = ⊎_elim (λ same. absurd (false≢true (sym e ∙ (bytes_decides w v).1 same))) there (Contains-cases w v ws c)

module _ (n : ℕ) (kind : ChainKind) (vs : List Vector) where
  own_or : (number : Option ℕ) (v : Vector) → HasOwnAt n kind.patterns number v ⊎ (HasOwnAt n kind.patterns number v → ⊥)
  own_or None v = inl tt
  own_or (Some m) v = vector_or (part_at n kind.patterns m v) (projection n (pattern_at kind.patterns m).variables (slice_index (pattern_at kind.patterns m).places 0))

  own_test : Option ℕ → Vector → Bool
  own_test number v = (test_of (HasOwnAt n kind.patterns number v) (own_or number v)).test

  own_tells : (number : Option ℕ) (v : Vector) → (own_test number v ≡ true) ↔ HasOwnAt n kind.patterns number v
  unfolding own_test
  own_tells number v = (test_of (HasOwnAt n kind.patterns number v) (own_or number v)).tells

  own_exist : (number : Option ℕ) → kind.own ≡ own_of kind.patterns number → IfSome number (λ m. m < length kind.patterns) → AreOwnRows n kind vs (map (own_test number) vs)
  own_exist number is named = record {
    number = number;
    own_is = is;
    named = named;
    count = length-map vs (own_test number);
    rows = λ i v e.
        let at = get_or_from_slice_get (map (own_test number) vs) i (own_test number v) false (mapped_at (own_test number) vs i v e) in
        let both = own_tells number v in
        (λ a. both.0 (sym at ∙ a), λ h. at ∙ both.1 h);
  }

  -- the parts at the two patterns of a link are its classes
  module _ (pair : PatternPair) where
    abbrev first_part : Vector → Vector
    first_part v = part_at n kind.patterns pair.first v

    abbrev second_part : Vector → Vector
    second_part v = part_at n kind.patterns pair.second v

    keys : List Vector
    keys = map first_part vs ++ map second_part vs

    first_in : (i : ℕ) (v : Vector) → slice_get vs i ≡ Some v → Contains keys (first_part v)
    unfolding keys
    first_in i v e = Contains-append_left (map first_part vs) (map second_part vs) (first_part v) (Contains-map first_part v vs (Contains-slice_get vs i v e))

    second_in : (i : ℕ) (v : Vector) → slice_get vs i ≡ Some v → Contains keys (second_part v)
    unfolding keys
    second_in i v e = Contains-append_right (map first_part vs) (map second_part vs) (second_part v) (Contains-map second_part v vs (Contains-slice_get vs i v e))

    links : LinkLists
    links = record { leads = map (λ v. place_of keys (first_part v)) vs; enters = map (λ v. place_of keys (second_part v)) vs; classes = length vs + length vs }

    links_exist : AreLinksAt n kind.patterns pair vs links
    unfolding links
    links_exist = record {
      count = length-map vs (λ v. place_of keys (first_part v));
      few = omega arith;
      joins = λ i j v w x y.
          let lead = get_or_from_slice_get (map (λ v. place_of keys (first_part v)) vs) i (place_of keys (first_part v)) 0 (mapped_at (λ v. place_of keys (first_part v)) vs i v x) in
          let enter = get_or_from_slice_get (map (λ v. place_of keys (second_part v)) vs) j (place_of keys (second_part w)) 0 (mapped_at (λ v. place_of keys (second_part v)) vs j w y) in (
            λ e. same_Some (first_part v) (second_part w) (sym (stands_there keys (first_part v) (first_in i v x)) ∙ ap (slice_get keys) (sym lead ∙ e ∙ enter) ∙ stands_there keys (second_part w) (second_in j w y)),
            λ e. lead ∙ ap (place_of keys) e ∙ sym enter,
          );
    }

-- ---- marked numbers

record HasNumbers (P : ℕ → Type 0) (n : ℕ) : Type 0 where
  numbers : List ℕ
  ascending : (j k : ℕ) → j < k → k < length numbers → slice_index numbers j < slice_index numbers k
  exact : (i : ℕ) → Contains numbers i ↔ P i
  few : length numbers ≤ n

module _ (marks : List Bool) where
  numbers_of_first : (i : ℕ) → i ≤ length marks → (numbers : List ℕ) × AreMarkedNumbers (take i marks) numbers
  numbers_of_first zero h = ([], record { ascending = λ j k l w. absurd (omega (arith, w)); exact = λ i. (λ c. absurd (Contains-none i c), λ m. let low = marked_low [] i m in absurd (omega (arith, low))) })
  numbers_of_first (suc i) h =
      let rest = numbers_of_first i (omega (arith, h)) in
      let next : i + 1 ≡ suc i = omega arith in
      ⊎_elim
      (λ yes. (rest.0 ++ i ∷ [], subst (λ k. AreMarkedNumbers (take k marks) (rest.0 ++ i ∷ [])) next (numbers_more marks i rest.0 (rest.0 ++ i ∷ []) (omega (arith, h)) yes refl rest.1)))
      (λ no. (rest.0, subst (λ k. AreMarkedNumbers (take k marks) rest.0) next (numbers_skip marks i rest.0 (omega (arith, h)) no rest.1)))
      (either (slice_index_or marks i false))
    where
      either : (b : Bool) → (b ≡ true) ⊎ (b ≡ false)
      either true = inl refl
      either false = inr refl

numbers_exist : (P : ℕ → Type 0) (n : ℕ) → ((i : ℕ) → P i ⊎ (P i → ⊥)) → ((i : ℕ) → P i → i < n) → HasNumbers P n
numbers_exist P n decided low = record {
  numbers = found.0;
  ascending = are.ascending;
  exact = exact;
  few =
      length-le_from_below n found.0 (sorted_from_strictly_increasing found.0 (λ k w. are.ascending k (k + 1) (omega arith) w))
      (All-from_recursion (λ i. i < n) found.0 (all_from_contains (λ i. i < n) found.0 (λ i c. low i ((exact i).0 c))));
}
  where
    mark : ℕ → Bool
    mark i = (test_of (P i) (decided i)).test

    tells : (i : ℕ) → (mark i ≡ true) ↔ P i
    tells i = (test_of (P i) (decided i)).tells

    marks : List Bool
    marks = map mark (range_with_len 0 n)

    many : length marks ≡ n
    many = length-map (range_with_len 0 n) mark ∙ length-range_with_len 0 n

    mark_at : (i : ℕ) → i < n → slice_index_or marks i false ≡ mark i
    mark_at i w = get_or-map-range_with_len mark 0 n i i false w (omega arith)

    found : (numbers : List ℕ) × AreMarkedNumbers (take (length marks) marks) numbers
    found = numbers_of_first marks (length marks) (omega arith)

    are : AreMarkedNumbers marks found.0
    are = subst (λ (ms : List Bool). AreMarkedNumbers ms found.0) (take_all (length marks) marks (omega arith)) found.1

    exact : (i : ℕ) → Contains found.0 i ↔ P i
    exact i = (
      λ c. let m = (are.exact i).0 c in (tells i).0 (sym (mark_at i (let w = marked_low marks i m in omega (arith, w, many))) ∙ m),
      λ h. (are.exact i).1 (mark_at i (low i h) ∙ (tells i).1 h),
    )

even_exist : (by_parity : Bool) (at_even at_odd : List Bool) (n : ℕ) → length at_even ≡ n → length at_odd ≡ n → (numbers : List ℕ) × AreEvenNumbers by_parity at_even at_odd numbers × (length numbers ≤ n)
even_exist by_parity at_even at_odd n evens odds =
    let found = numbers_exist (λ i. (slice_index_or at_even i false ≡ true) ⊎ (by_parity ≡ false) × (slice_index_or at_odd i false ≡ true)) n
    (λ i. ⊎_elim
    (λ yes. inl (inl yes))
    (λ no. ⊎_elim (λ yes. inl (inr yes)) (λ none. inr (λ h. ⊎_elim no none h)) (both_or (bool_or by_parity false) (bool_or (slice_index_or at_odd i false) true)))
    (bool_or (slice_index_or at_even i false) true))
    (λ i h. ⊎_elim (λ m. let w = marked_low at_even i m in omega (arith, w, evens)) (λ m. let w = marked_low at_odd i m.1 in omega (arith, w, odds)) h) in
    (found.numbers, record { ascending = found.ascending; exact = found.exact }, found.few)

odd_exist : (by_parity : Bool) (at_odd : List Bool) (n : ℕ) → length at_odd ≡ n → (numbers : List ℕ) × AreOddNumbers by_parity at_odd numbers × (length numbers ≤ n)
odd_exist by_parity at_odd n odds =
    let found = numbers_exist (λ i. (by_parity ≡ true) × (slice_index_or at_odd i false ≡ true)) n
    (λ i. both_or (bool_or by_parity true) (bool_or (slice_index_or at_odd i false) true))
    (λ i h. let w = marked_low at_odd i h.1 in omega (arith, w, odds)) in
    (found.numbers, record { ascending = found.ascending; exact = found.exact }, found.few)

-- ---- steps of rows

module _ (p : Product) (gens : List Vector) (b : ℕ) (list : List Row) (closed : IsClosedListing p gens b list) (rows : List ℕ) (low : AllByRecursion (λ i. i < length list) rows) where
  one_step : (j : ℕ) → j < length rows → (s : StepList) × AreStepsAt p gens list rows (length gens - 1) j s
  one_step j w = ⊎_elim
      (λ first. (generator_step p gens 0, record { first = λ e. refl; last = λ some e. absurd (omega (arith, some, first)); inner = λ some e. absurd (omega (arith, some, first)) }))
      (λ later. ⊎_elim
      (λ last. (generator_step p gens (length gens - 1), record { first = λ e. absurd (later e); last = λ some e. refl; inner = λ some e. absurd (omega (arith, e, last)) }))
      (λ inner.
      let s = steps_exist p gens list closed.listing (slice_index rows j) (All-from_recursion (λ i. i < length list) rows low j 0 w) in
      (s.steps, record { first = λ e. absurd (later e); last = λ some e. absurd (inner e); inner = λ some e. record { value = s.value; needed = s.needed } }))
      (cases_eq (j + 1) (length rows)))
      (cases_eq j 0)

  record HasStepsOfFirst (k : ℕ) : Type 0 where
    steps : List StepList
    count : length steps ≡ k
    at : (j : ℕ) (s : StepList) → slice_get steps j ≡ Some s → AreStepsAt p gens list rows (length gens - 1) j s

  steps_of_first : (k : ℕ) → k ≤ length rows → HasStepsOfFirst k
  steps_of_first zero h = record { steps = []; count = refl; at = λ j s e. cc }
  steps_of_first (suc k) h =
      let rest = steps_of_first k (omega (arith, h)) in
      let one = one_step k (omega (arith, h)) in
      let count = rest.count in
      record {
        steps = rest.steps ++ one.0 ∷ [];
        count = length-append rest.steps (one.0 ∷ []) ∙ (omega (arith, count));
        at = λ j s e. ⊎_elim
            (λ old. rest.at j s old)
            (λ new.
            let place : k ≡ j = sym (new.0 ∙ count) in
            subst (λ i. AreStepsAt p gens list rows (length gens - 1) i s) place (subst (AreStepsAt p gens list rows (length gens - 1) k) new.1 one.1))
            (slice_get-push_cases rest.steps one.0 s j e);
      }

-- ---- a chain in a closed listing

-- a list as it would lie in memory
abbrev vec_of : {X : Type 0} → Global → (xs : List X) → length xs < 2 ^ 63 → Vec X Global
vec_of alloc xs small = record { ptr = null_ptr; len = length xs; cap = length xs; alloc = alloc; items = xs; ok = (refl, omega arith); small = small }

told_ok : (x : Chain) (r : Result Chain CloseError) → r ≡ Ok x → r ≢ Err OutOfMemory
told_ok x r is e = cc

told_wide : (n c : ℕ) (r : Result Chain CloseError) → r ≡ Err (Wide n c) → r ≢ Err OutOfMemory
told_wide n c r is e = cc

-- the numbers of a kind are those of its patterns
record AreNamed (ps : List VariablePattern) (own : Option ℕ) (even odd : PatternPair) : Type 0 where
  own_named : IfSome own (λ m. m < length ps)
  even_first : even.first < length ps
  even_second : even.second < length ps
  odd_first : odd.first < length ps
  odd_second : odd.second < length ps

module _ (alloc : Global) (a : FiniteAlgebra) (places : ℕ) (ps : List VariablePattern) (own : Option ℕ) (even odd : PatternPair) (by_parity : Bool)
    (is_kind : IsKind (kind_of places ps own even odd by_parity)) (named : AreNamed ps own even odd) (alg : IsAlgebra a) (b : ℕ) where
  abbrev kind : ChainKind
  kind = kind_of places ps own even odd by_parity

  abbrev p : Product
  p = power_of a kind

  abbrev gens : List Vector
  gens = generators_of a kind

  closure : IsClosureOf a kind p gens
  closure = closure_from a kind p gens is_kind alg.inhabited refl refl

  last_place : kind.end ≡ length gens - 1
  last_place = end_made a kind gens places refl refl refl

  product : IsProduct p
  product = power_product a (length (all_fillings a.size ps)) alg closure.wide

  record HasChain (list : List Row) : Type 0 where
    chain : Chain
    tells : TellsChain a kind b chain
    serial : IsSerialListing p gens list → IsSerialChain a kind b chain

  -- the cells of the budget are within their limit
  few_rows : ¬ IsWide p gens b → b ≤ CELLS
  few_rows narrow = ⊎_elim
      (λ wide. absurd (narrow (inr wide)))
      (λ fits.
      let long = length-replicate (length (all_fillings a.size ps)) a in
      let some = closure.wide in
      let more : b * 1 ≤ b * length p = mul-le-mul_left b (omega (arith, long, some)) in
      omega (arith, fits, more))
      (cases_lt CELLS (cells p b))

  module _ (list : List Row) (closed : IsClosedListing p gens b list) (narrow : ¬ IsWide p gens b) where
    many : length (vectors_of list) ≡ length list
    many = length-map list (λ (r : Row). r.vector)

    allowed : List Bool
    allowed = map (own_test a.size kind (vectors_of list) own) (vectors_of list)

    chart : IsChart a kind (vectors_of list) allowed (links a.size kind (vectors_of list) even) (links a.size kind (vectors_of list) odd)
    unfolding allowed
    chart = chart_from a kind (vectors_of list) allowed (links a.size kind (vectors_of list) even) (links a.size kind (vectors_of list) odd) even odd
        (λ v. closed.exact v) closed.listing.increasing (own_exist a.size kind (vectors_of list) own refl named.own_named)
        (record { link_is = refl; first = named.even_first; second = named.even_second; same = is_kind.even.same })
        (record { link_is = refl; first = named.odd_first; second = named.odd_second; same = is_kind.odd.same })
        (links_exist a.size kind (vectors_of list) even) (links_exist a.size kind (vectors_of list) odd)

    -- the row of a generator
    row_of : (j : ℕ) → j < kind.places → (i : ℕ) × IsRowOf a kind (vectors_of list) (Generator j) i
    row_of j w =
        let v = vector_of a kind.patterns (Generator j) in
        let at = generator_at a kind j w in
        let there = generator_there p gens b list j v closed at in
        (there.0, generator_row a kind (vectors_of list) j there.0 v w at (slice_get-get_or (vectors_of list) there.0 v there.1 ∙ ap Some there.2))

    start : (i : ℕ) × IsRowOf a kind (vectors_of list) (Generator 0) i
    start = row_of 0 (some_places kind is_kind)

    end : (i : ℕ) × IsRowOf a kind (vectors_of list) (Generator kind.end) i
    end = row_of kind.end is_kind.end

    small : length list ≤ CELLS
    small = let few = few_rows narrow in let within = closed.within in omega (arith, few, within)

    yes_chain : HasLeastClimb allowed (links a.size kind (vectors_of list) even) (links a.size kind (vectors_of list) odd) start.0 end.0 → HasChain list
    yes_chain least =
        let count = chart.count in
        let low = all_from_contains (λ i. i < length list) least.rows (λ i c. let w = marked_low allowed i (all_at (IsAllowed allowed) least.rows i least.is.climb.allows c) in omega (arith, w, count, many)) in
        let found = steps_of_first p gens b list closed least.rows low (length least.rows) (omega arith) in
        let size = found.count in
        let few = least.few in
        let e = links a.size kind (vectors_of list) even in
        let o = links a.size kind (vectors_of list) odd in
        record {
          chain = Yes (vec_of alloc found.steps (omega (arith, size, few, count, many, small)));
          tells = (
            yes_answer a kind p gens list allowed e o start.0 end.0 least.rows found.steps closure chart start.1 end.1 least.is last_place found.count found.at,
            closed_has_no_more p gens b list closed,
          );
          serial = λ serial. serial_answer a kind p gens list allowed e o start.0 end.0 least.rows found.steps closure chart start.1 end.1 least.is last_place found.count found.at b closed serial;
        }

    no_chain : HasReached allowed (links a.size kind (vectors_of list) even) (links a.size kind (vectors_of list) odd) start.0 end.0 → HasChain list
    no_chain none =
        let evens = even_exist by_parity none.at_even none.at_odd (length allowed) none.is.even_count none.is.odd_count in
        let odds = odd_exist by_parity none.at_odd (length allowed) none.is.odd_count in
        let count = chart.count in
        let few = evens.2 in
        let few_odd = odds.2 in
        record {
          chain = No list (vec_of alloc evens.0 (omega (arith, few, count, many, small))) (vec_of alloc odds.0 (omega (arith, few_odd, count, many, small)));
          tells =
              no_answer a kind b list allowed (links a.size kind (vectors_of list) even) (links a.size kind (vectors_of list) odd) start.0 end.0
              none.at_even none.at_odd evens.0 odds.0 is_kind closure.wide closed chart start.1 end.1 none.is evens.1 odds.1;
          serial = λ serial. serial;
        }

    chain_exists : HasChain list
    chain_exists = ⊎_elim yes_chain no_chain (climb_exists allowed (links a.size kind (vectors_of list) even) (links a.size kind (vectors_of list) odd) start.0 end.0)

  -- ---- what is told

  chain_found : ¬ IsWide p gens b → (w : ℕ) → (chain : Chain) × MayChain a kind b w (Ok chain)
  chain_found narrow w = let h = one_kind p gens product (generators_fit a kind is_kind) b in by h.closure h.answers h.serial
    where
      by : (closure : Closure) → Answers p gens b closure → IsSerialAnswer p gens closure → (chain : Chain) × MayChain a kind b w (Ok chain)
      by (closures.Closed rows) closed serial = let c = chain_exists rows closed narrow in (c.chain, (narrow, c.tells, λ one. c.serial serial))
      by (closures.Exceeds rows) exceeding serial = (Exceeds rows, (narrow, exceeding, λ one. serial))

  chain_told : (w : ℕ) → IsAnswerable (MayChain a kind b w) OutOfMemory
  chain_told w = ⊎_elim
      (λ wide.
      let n = records (arities p) (length gens) b in
      let c = cells p b in
      record { answer = Err (Wide n c); permitted = (wide, refl, refl); told = told_wide n c (Err (Wide n c)) refl })
      (λ narrow. let f = chain_found narrow w in record { answer = Ok f.0; permitted = f.1; told = told_ok f.0 (Ok f.0) refl })
      (wide_or p gens b)

-- ---- the kinds

-- a kind that is made of the numbers of its patterns
pub made_told : (alloc : Global) (a : FiniteAlgebra) (places : ℕ) (ps : List VariablePattern) (own : Option ℕ) (even odd : PatternPair)
    (by_parity : Bool) (b w : ℕ)
    → IsAlgebra a → IsKindTable places ps own even odd by_parity
    → IsAnswerable (MayChain a (kind_of places ps own even odd by_parity) b w) OutOfMemory
made_told alloc a places ps own even odd by_parity b w alg table =
    let named : AreNamed ps own even odd = record { own_named = table.own_named; even_first = table.even_first; even_second = table.even_second; odd_first = table.odd_first; odd_second = table.odd_second } in
    chain_told alloc a places ps own even odd by_parity table.kind named alg b w

-- a chain of each kind that has a name can be told
pub named_told : (alloc : Global) (a : FiniteAlgebra) (name : NamedKind) (b w : ℕ) → IsAlgebra a → IsAnswerable (MayChain a (kind_named name) b w) OutOfMemory
named_told alloc a Jonsson b w alg =
    let even : PatternPair = record { first = 1; second = 1 } in
    let odd : PatternPair = record { first = 2; second = 2 } in
    let named : AreNamed (xyx ∷ xxy ∷ xyy ∷ []) (Some 0) even odd = record { own_named = omega arith; even_first = omega arith; even_second = omega arith; odd_first = omega arith; odd_second = omega arith } in
    chain_told alloc a 3 (xyx ∷ xxy ∷ xyy ∷ []) (Some 0) even odd true is_jonsson named alg b w
named_told alloc a HagemannMitschke b w alg =
    let pair : PatternPair = record { first = 0; second = 1 } in
    let named : AreNamed (xxy ∷ xyy ∷ []) None pair pair = record { own_named = tt; even_first = omega arith; even_second = omega arith; odd_first = omega arith; odd_second = omega arith } in
    chain_told alloc a 3 (xxy ∷ xyy ∷ []) None pair pair false is_hagemann_mitschke named alg b w
named_told alloc a Day b w alg =
    let even : PatternPair = record { first = 1; second = 1 } in
    let odd : PatternPair = record { first = 2; second = 2 } in
    let named : AreNamed (xyyx ∷ xxww ∷ xyyw ∷ []) (Some 0) even odd = record { own_named = omega arith; even_first = omega arith; even_second = omega arith; odd_first = omega arith; odd_second = omega arith } in
    chain_told alloc a 4 (xyyx ∷ xxww ∷ xyyw ∷ []) (Some 0) even odd true is_day named alg b w
