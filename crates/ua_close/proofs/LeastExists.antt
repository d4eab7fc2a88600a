-- Each closed listing has a least one of the same vectors: heights by the terms up to each height, first origins among all of a height, and ranks in order.
use Rattle.std.proofs.Common.{◌≡◌, ◌⊎◌, inl, inr, ⊎_elim, ℕ, zero, suc, ◌<◌, ◌≤◌, max, true, false, List, [], ◌∷◌, length, map, take, get_or, refl, sym, ap, ◌∙◌, subst, arith}
use Rattle.std.specs.Prelude.{Contains, slice_index, slice_index_or}
use Rattle.std.specs.List.{AllByRecursion}
use Rattle.std.specs.Ordering.{nat_cmp, ordering_then, ordering_reverse, is_lt, is_gt}
use Rattle.std.proofs.lemmas.Bool.{cases_lt, cases_eq}
use Rattle.std.proofs.lemmas.Cmp.{nat_cmp_total}
use Rattle.std.proofs.lemmas.List.{length-map, get_or_default}
use Rattle.ua_table.specs.declared.origins.Origin.{Origin}
use Rattle.ua_table.specs.declared.origins.Origin.TheVariants.{Gen, Op}
use Rattle.ua_table.specs.Algebras.{Vector, Product, arities, apply}
use Rattle.ua_table.specs.Counting.{EachOnceBelow}
use Rattle.ua_table.specs.Generated.{Sg}
use Rattle.ua_table.specs.Listings.{Row, vectors_of, ranks_of, IsClosedListing}
use Rattle.ua_table.specs.Numbering.{greatest}
use Rattle.ua_table.specs.Orders.{IsHeight, height_of, spelled, IsFirstOrigin}
use Rattle.ua_table.specs.Origins.{IsOrigin, origin_value}
use Rattle.ua_table.specs.Terms.{Tree, Generator, Application, Trees, none, more, count_of, IsTerm, AreTerms, term_value, term_values, height, greatest_height}
use Rattle.ua_table.proofs.GeneratedLaws.{length-term_values}
use Rattle.ua_table.proofs.Choices.{greatest_low}
use Rattle.ua_table.proofs.Lists.{Contains-map, Contains-map_from, all_map, all_weaker}
use Rattle.ua_rows.specs.RowLists.{rows_at}
use Rattle.ua_listing.specs.Arrangements.{origins_of}
use Rattle.ua_listing.specs.inner.Leasts.{AreByHeight}
use Rattle.ua_listing.specs.Rankings.{ArePositions}
use Rattle.ua_listing.proofs.ArrangingLaws.{sorted_exists, sorted_from_order, positions_exist, reverse_then, less_one_way}
use Rattle.ua_listing.proofs.HeightLaws.{greatest_most}
use Rattle.ua_listing.proofs.HighLaws.{High, high_cmp, highs, by_height}
use Rattle.ua_listing.proofs.LeastLaws.{least_from}
use Rattle.ua_work.proofs.RowValues.{either_way}
use Rattle.ua_close.specs.Kinds.{HasLeast}
use Rattle.ua_table.proofs.Firsts.{IsFirstOf, first_of}
use Rattle.ua_close.proofs.MetLaws.{vector_or}
use Rattle.ua_close.proofs.OriginLists.{application, is_application, all_origins, all_of_them, only_origins, result_origin}

-- ---- the values of the terms up to a height

module _ (p : Product) (gens : List Vector) where
  abbrev values_up_to : ℕ → List Vector
  values_up_to zero = gens
  values_up_to (suc h) = map (origin_value p gens (values_up_to h)) (all_origins (arities p) (length gens) (length (values_up_to h)))

  mutual
    in_values : (t : Tree) (h : ℕ) → IsTerm (arities p) (length gens) t → height t ≤ h → Contains (values_up_to h) (term_value p gens t)
    in_values (Generator i) zero is low = (i, is, get_or_default gens i (slice_index_or gens i []) [] is)
    in_values (Generator i) (suc h) is low =
        let vs = values_up_to h in
        Contains-map (origin_value p gens vs) (Gen i) (all_origins (arities p) (length gens) (length vs)) (all_of_them (arities p) (length gens) (length vs) (Gen i) is)
    in_values (Application f ts) zero is low = absurd (omega (arith, low))
    in_values (Application f ts) (suc h) is low =
        let vs = values_up_to h in
        let r = result_origin p gens vs f (term_values p gens ts) is.0 (length-term_values p gens ts ∙ is.1) (all_in_values ts h is.2 (omega (arith, low))) in
        subst (Contains (values_up_to (suc h))) r.value (Contains-map (origin_value p gens vs) r.origin (all_origins (arities p) (length gens) (length vs)) (all_of_them (arities p) (length gens) (length vs) r.origin r.valid))

    all_in_values : (ts : Trees) (h : ℕ) → AreTerms (arities p) (length gens) ts → greatest_height ts ≤ h → AllByRecursion (Contains (values_up_to h)) (term_values p gens ts)
    all_in_values none h is low = tt
    all_in_values (more t ts) h is low = (in_values t h is.0 (omega (arith, low)), all_in_values ts h is.1 (omega (arith, low)))

  -- a term up to a height has the value
  record HasLowTerm (h : ℕ) (v : Vector) : Type 0 where
    term : Tree
    is_term : IsTerm (arities p) (length gens) term
    low : height term ≤ h
    value : term_value p gens term ≡ v

  record HaveLowTerms (h : ℕ) (vs : List Vector) : Type 0 where
    terms : Trees
    are_terms : AreTerms (arities p) (length gens) terms
    count : count_of terms ≡ length vs
    low : greatest_height terms ≤ h
    values : term_values p gens terms ≡ vs

  low_terms : (h : ℕ) (rows : List Vector) (args : List ℕ) → AllByRecursion (λ a. HasLowTerm h (slice_index_or rows a [])) args → HaveLowTerms h (rows_at rows args)
  low_terms h rows [] each = record { terms = none; are_terms = tt; count = refl; low = omega arith; values = refl }
  low_terms h rows (a ∷ args) each =
      let one = each.0 in
      let rest = low_terms h rows args each.1 in
      record {
        terms = more one.term rest.terms;
        are_terms = (one.is_term, rest.are_terms);
        count = ap suc rest.count;
        low = (let l = one.low in let r = rest.low in omega (arith, l, r));
        values = λ i. one.value i ∷ rest.values i;
      }

  from_values : (h : ℕ) (v : Vector) → Contains (values_up_to h) v → HasLowTerm h v
  from_values zero v c = record { term = Generator c.0; is_term = c.1; low = omega arith; value = get_or_default gens c.0 [] v c.1 ∙ c.2 }
  from_values (suc h) v c =
      let rows = values_up_to h in
      let m = Contains-map_from (origin_value p gens rows) v (all_origins (arities p) (length gens) (length rows)) c in
      by_origin rows (from_values h) v m.0 (only_origins (arities p) (length gens) (length rows) m.0 m.1) m.2
    where
      by_origin : (rows : List Vector) → ((w : Vector) → Contains rows w → HasLowTerm h w) → (w : Vector) (o : Origin) → IsOrigin (arities p) (length gens) (length rows) o → origin_value p gens rows o ≡ w → HasLowTerm (suc h) w
      by_origin rows each w (Gen i) valid value = record { term = Generator i; is_term = valid; low = omega arith; value = value }
      by_origin rows each w (Op f args) valid value =
          let args_of = take (slice_index (arities p) f) args in
          let ts = low_terms h rows args_of (all_weaker (λ a. a < length rows) (λ a. HasLowTerm h (slice_index_or rows a [])) (λ a l. let u = slice_index_or rows a [] in each u (a, l, get_or_default rows a u [] l)) args_of valid.earlier) in
          record {
            term = Application f ts.terms;
            is_term = (valid.operation, ts.count ∙ length-map (take (slice_index (arities p) f) args) (λ a. slice_index_or rows a []) ∙ valid.count, ts.are_terms);
            low = (let l = ts.low in omega (arith, l));
            value = ap (apply p f) ts.values ∙ value;
          }

  -- ---- heights

  abbrev NoneBelow : Vector → ℕ → Type 0
  NoneBelow v h = (t : Tree) → IsTerm (arities p) (length gens) t → term_value p gens t ≡ v → h ≤ height t

  height_or : (v : Vector) (k : ℕ) → ((h : ℕ) × IsHeight p gens v h) ⊎ NoneBelow v k
  height_or v zero = inr (λ t is e. omega arith)
  height_or v (suc k) = ⊎_elim
      (λ found. inl found)
      (λ none. ⊎_elim
      (λ c.
      let t = from_values k v c in
      let low = t.low in
      inl (height t.term, record { term = t.term; is_term = t.is_term; value = t.value; reached = refl; least = λ other is e. let n = none other is e in omega (arith, n, low) }))
      (λ no. inr (λ t is e. ⊎_elim (λ l. omega (arith, l)) (λ le. absurd (no (subst (Contains (values_up_to k)) e (in_values t k is le)))) (cases_lt k (height t))))
      (either_way (values_up_to k) v))
      (height_or v k)

  height_exists : (v : Vector) → Sg p gens v → (h : ℕ) × IsHeight p gens v h
  height_exists v s = ⊎_elim (λ found. found) (λ none. absurd (let n = none s.term s.is_term s.value in omega (arith, n))) (height_or v (suc (height s.term)))

-- ---- lists

-- one more at the front
at_front : {X : Type 0} (P : ℕ → X → Type 0) (d x : X) (xs : List X) (n : ℕ) → P 0 x → ((i : ℕ) → i < n → P (suc i) (get_or xs i d)) → (i : ℕ) → i < suc n → P i (get_or (x ∷ xs) i d)
at_front P d x xs n here rest zero h = here
at_front P d x xs n here rest (suc i) h = rest i (omega (arith, h))

-- a list with what there is for each number
list_exists : {X : Type 0} (P : ℕ → X → Type 0) (d : X) (n : ℕ) → ((i : ℕ) → i < n → (x : X) × P i x) → (xs : List X) × (length xs ≡ n) × ((i : ℕ) → i < n → P i (get_or xs i d))
list_exists P d zero each = ([], refl, λ i h. absurd (omega (arith, h)))
list_exists P d (suc n) each =
    let here = each 0 (omega arith) in
    let rest = list_exists (λ i. P (suc i)) d n (λ i h. each (suc i) (omega (arith, h))) in
    (here.0 ∷ rest.0, ap suc rest.1, at_front P d here.0 rest.0 n here.1 rest.2)

record AreJoined (vs : List Vector) (ranks : List ℕ) (os : List Origin) : Type 0 where
  rows : List Row
  vectors : vectors_of rows ≡ vs
  ranks_are : ranks_of rows ≡ ranks
  origins : origins_of rows ≡ os

joined : (vs : List Vector) (ranks : List ℕ) (os : List Origin) → length ranks ≡ length vs → length os ≡ length vs → AreJoined vs ranks os
joined [] [] [] a b = record { rows = []; vectors = refl; ranks_are = refl; origins = refl }
joined [] (k ∷ ks) os a b = absurd (omega (arith, a))
joined [] [] (o ∷ os) a b = absurd (omega (arith, b))
joined (v ∷ vs) [] os a b = absurd (omega (arith, a))
joined (v ∷ vs) (k ∷ ks) [] a b = absurd (omega (arith, b))
joined (v ∷ vs) (k ∷ ks) (o ∷ os) a b =
    let rest = joined vs ks os (omega (arith, a)) (omega (arith, b)) in
    let row : Row = record { vector = v; rank = k; origin = o } in
    record { rows = row ∷ rest.rows; vectors = λ i. v ∷ rest.vectors i; ranks_are = λ i. k ∷ rest.ranks_are i; origins = λ i. o ∷ rest.origins i }

-- ---- positions by height

high_reverse : (x y : High) → high_cmp y x ≡ ordering_reverse (high_cmp x y)
high_reverse x y = (λ i. ordering_then (nat_cmp_total.antisymm y.0 x.0 i) (nat_cmp_total.antisymm y.1 x.1 i)) ∙ reverse_then (nat_cmp x.0 y.0) (nat_cmp x.1 y.1)

by_height_exists : (heights : List ℕ) → (places : List ℕ) × AreByHeight heights places
by_height_exists heights =
    let lt = λ (x y : High). is_lt (high_cmp x y) in
    let one_way = λ (x y : High) (e : is_lt (high_cmp x y) ≡ true). ap is_lt (high_reverse x y) ∙ less_one_way (high_cmp x y) e in
    let sorted = sorted_exists lt one_way (highs heights (length heights)) in
    (map (λ (a : High). a.1) sorted.0, by_height heights sorted.0 sorted.1 (sorted_from_order lt one_way sorted.0 sorted.2))

-- ---- the least listing

module _ (p : Product) (gens : List Vector) (b : ℕ) (old : List Row) (closed : IsClosedListing p gens b old) where
  abbrev member_of : (i : ℕ) → i < length (vectors_of old) → Sg p gens (slice_index_or (vectors_of old) i [])
  member_of i h = let v = slice_index_or (vectors_of old) i [] in (closed.exact v).0 (i, h, get_or_default (vectors_of old) i v [] h)

  heights_exist : (hs : List ℕ) × (length hs ≡ length (vectors_of old)) × ((i : ℕ) → i < length (vectors_of old) → IsHeight p gens (slice_index_or (vectors_of old) i []) (get_or hs i 0))
  heights_exist = list_exists (λ i h. IsHeight p gens (slice_index_or (vectors_of old) i []) h) 0 (length (vectors_of old)) (λ i h. height_exists p gens (slice_index_or (vectors_of old) i []) (member_of i h))

  module _ (heights : List ℕ) (tall : (i : ℕ) → i < length (vectors_of old) → IsHeight p gens (slice_index_or (vectors_of old) i []) (slice_index heights i)) where
    -- the rows of the values of terms, none of them higher than its term
    record ArePlaces (values : List Vector) (h : ℕ) : Type 0 where
      places : List ℕ
      at : rows_at (vectors_of old) places ≡ values
      below : AllByRecursion (λ a. a < length (vectors_of old)) places
      low : AllByRecursion (λ a. slice_index heights a ≤ h) places

    places_of : (ts : Trees) → AreTerms (arities p) (length gens) ts → ArePlaces (term_values p gens ts) (greatest_height ts)
    places_of none are = record { places = []; at = refl; below = tt; low = tt }
    places_of (more t ts) are =
        let c = (closed.exact (term_value p gens t)).1 (record { term = t; is_term = are.0; value = refl }) in
        let at : slice_index_or (vectors_of old) c.0 [] ≡ term_value p gens t = get_or_default (vectors_of old) c.0 [] (term_value p gens t) c.1 ∙ c.2 in
        let least = (tall c.0 c.1).least t are.0 (sym at) in
        let rest = places_of ts are.1 in
        record {
          places = c.0 ∷ rest.places;
          at = λ i. at i ∷ rest.at i;
          below = (c.1, rest.below);
          low = (omega (arith, least), all_weaker (λ a. slice_index heights a ≤ greatest_height ts) (λ a. slice_index heights a ≤ max (height t) (greatest_height ts)) (λ a l. omega (arith, l)) rest.places rest.low);
        }

    -- the origin gives row i at its height
    abbrev GivesRow : ℕ → Origin → Type 0
    GivesRow i o = (origin_value p gens (vectors_of old) o ≡ slice_index_or (vectors_of old) i []) × (slice_index heights i ≡ height_of (arities p) heights o)

    gives_or : (i : ℕ) (o : Origin) → GivesRow i o ⊎ ¬ GivesRow i o
    gives_or i o = ⊎_elim
        (λ value. ⊎_elim (λ reaches. inl (value, reaches)) (λ no. inr (λ g. no g.1)) (cases_eq (slice_index heights i) (height_of (arities p) heights o)))
        (λ no. inr (λ g. no g.0))
        (vector_or (origin_value p gens (vectors_of old) o) (slice_index_or (vectors_of old) i []))

    record HasOriginAt (i : ℕ) : Type 0 where
      origin : Origin
      valid : IsOrigin (arities p) (length gens) (length (vectors_of old)) origin
      gives : GivesRow i origin

    -- a term that is as high gives an origin
    by_term : (i : ℕ) → i < length (vectors_of old) → (t : Tree) → IsTerm (arities p) (length gens) t → term_value p gens t ≡ slice_index_or (vectors_of old) i [] → height t ≡ slice_index heights i → HasOriginAt i
    by_term i h (Generator j) is value reached = record { origin = Gen j; valid = is; gives = (value, sym reached) }
    by_term i h (Application f ts) is value reached =
        let q = places_of ts is.2 in
        let heights_at = map (λ a. slice_index heights a) q.places in
        let k = slice_index (arities p) f in
        let count : length q.places ≡ k = sym (length-map q.places (λ a. slice_index_or (vectors_of old) a [])) ∙ ap (length {A = Vector}) q.at ∙ length-term_values p gens ts ∙ is.1 in
        let applied = is_application (arities p) (length (vectors_of old)) f q.places is.0 count q.below in
        let m = greatest heights_at in
        let most = greatest_most heights_at (greatest_height ts) (all_map (λ x. x ≤ greatest_height ts) (λ a. slice_index heights a) q.places q.low) in
        let lows = low_terms p gens m (vectors_of old) q.places (each m q.places (greatest_low heights_at) q.below) in
        let least = (tall i h).least (Application f lows.terms) (is.0, lows.count ∙ length-map q.places (λ a. slice_index_or (vectors_of old) a []) ∙ count, lows.are_terms) (ap (apply p f) (lows.values ∙ q.at) ∙ value) in
        let low = lows.low in
        let same : slice_index heights i ≡ suc m = omega (arith, most, least, low, reached) in
        record {
          origin = application (arities p) f q.places;
          valid = applied.valid;
          gives = (
            ap (λ (args : List ℕ). apply p f (rows_at (vectors_of old) args)) applied.arguments ∙ ap (apply p f) q.at ∙ value,
            same ∙ ap (λ (args : List ℕ). suc (greatest (map (λ a. slice_index heights a) args))) (sym applied.arguments),
          );
        }
      where
        each : (m : ℕ) (args : List ℕ) → AllByRecursion (λ x. x ≤ m) (map (λ a. slice_index heights a) args) → AllByRecursion (λ a. a < length (vectors_of old)) args
            → AllByRecursion (λ a. HasLowTerm p gens m (slice_index_or (vectors_of old) a [])) args
        each m [] low below = tt
        each m (a ∷ args) low below =
            let t = tall a below.0 in
            (record { term = t.term; is_term = t.is_term; low = (let l = low.0 in let r = t.reached in omega (arith, l, r)); value = t.value }, each m args low.1 below.1)

    first_origin : (i : ℕ) → i < length (vectors_of old) → (o : Origin) × IsFirstOrigin p gens (vectors_of old) heights (slice_index_or (vectors_of old) i []) (slice_index heights i) o
    first_origin i h =
        let t = tall i h in
        let some = by_term i h t.term t.is_term t.value t.reached in
        let all = all_origins (arities p) (length gens) (length (vectors_of old)) in
        let inside = all_of_them (arities p) (length gens) (length (vectors_of old)) in
        ⊎_elim
        (λ (r : IsFirstOf (spelled (arities p)) (GivesRow i) all). (
          r.item,
          record {
            origin = only_origins (arities p) (length gens) (length (vectors_of old)) r.item r.among;
            value = r.passes.0;
            reaches = r.passes.1;
            first = λ other valid value reaches greater. let bad : true ≡ false = sym (ap is_gt greater) ∙ r.first other (inside other valid) (value, reaches) in cc;
          },
        ))
        (λ none. absurd (none some.origin (inside some.origin some.valid) some.gives))
        (first_of (spelled (arities p)) (GivesRow i) (gives_or i) all)

    abbrev IsFirstAt : ℕ → Origin → Type 0
    IsFirstAt i o = IsFirstOrigin p gens (vectors_of old) heights (slice_index_or (vectors_of old) i []) (slice_index heights i) o

    origins_exist : (os : List Origin) × (length os ≡ length (vectors_of old)) × ((i : ℕ) → i < length (vectors_of old) → IsFirstAt i (get_or os i (Gen 0)))
    origins_exist = list_exists IsFirstAt (Gen 0) (length (vectors_of old)) first_origin

  pub least_exists : HasLeast p gens b
  least_exists =
      let hs = heights_exist in
      let os = origins_exist hs.0 hs.2 in
      let by = by_height_exists hs.0 in
      let count : length by.0 ≡ length (vectors_of old) = by.1.count ∙ hs.1 in
      let ranks = positions_exist by.0 (subst (λ n. EachOnceBelow n by.0) (sym by.1.count) by.1.once) in
      let rows = joined (vectors_of old) ranks.0 os.0 (ranks.1.count ∙ count) os.1 in
      record {
        rows = rows.rows;
        least = least_from p gens b old rows.rows hs.0 by.0 os.0 closed hs.1 hs.2 os.2 by.1 rows.vectors (subst (ArePositions by.0) (sym rows.ranks_are) ranks.1) rows.origins;
      }
