-- A whole search reaches each row at its least height, by the first origin at it.
use Rattle.std.proofs.Common.{◌≡◌, ◌↔◌, ⊎_elim, ℕ, zero, suc, ◌-◌, ◌<◌, ◌≤◌, List, [], ◌∷◌, ◌++◌, length, map, take, drop, fold, max, replicate, refl, sym, ap, ◌∙◌, subst, arith, Some}
use Rattle.std.specs.Prelude.{Contains, slice_get, slice_index, slice_index_or, nat_eq}
use Rattle.std.specs.List.{AllByRecursion, IsDistinct}
use Rattle.std.specs.Cmp.Lexicographic.{pointwise}
use Rattle.std.proofs.lemmas.Bool.{cases_lt}
use Rattle.std.proofs.lemmas.List.{length-map, take-append-drop, take_at, drop_at, get_or_default}
use Rattle.std.proofs.lemmas.Option.{slice_get-get_or, get_or_from_slice_get}
use Rattle.ua_table.specs.declared.origins.Origin.{Origin}
use Rattle.ua_table.specs.declared.origins.Origin.TheVariants.{Gen, Op}
use Rattle.ua_table.specs.Algebras.{Vector, Product, arities, apply}
use Rattle.ua_table.specs.Terms.{Tree, Generator, Application, Trees, none, more, count_of, IsTerm, AreTerms, term_value, term_values, height, greatest_height}
use Rattle.ua_table.specs.Generated.{Sg}
use Rattle.ua_table.specs.Numbering.{greatest, four_places, IsShape}
use Rattle.ua_table.specs.Orders.{height_of, IsHeight, IsFirstOrigin}
use Rattle.ua_table.specs.Origins.{IsApplication, IsOrigin, arguments_of, origin_value}
use Rattle.ua_table.specs.Slices.{slice_row, slice_operation, slice_tuples}
use Rattle.ua_table.proofs.Choices.{greatest_low, greatest_tops}
use Rattle.ua_table.proofs.Lists.{all_at, all_weaker, all_map}
use Rattle.ua_table.proofs.SliceLaws.{bound_laws, slices_partition}
use Rattle.ua_table.proofs.GeneratedLaws.{length-term_values}
use Rattle.ua_table.proofs.Units.{positive_sum}
use Rattle.ua_rows.specs.RowLists.{rows_at}
use Rattle.ua_listing.specs.inner.Searches.{height_in, origin_in, IsReached, IsSearch, IsVisited, no_arguments, IsTupleVisited, IsWholeSearch}
use Rattle.ua_listing.specs.declared.searches.Search.{Search}
use Rattle.ua_listing.proofs.MarkLaws.{marked_below}
use Rattle.ua_listing.proofs.SearchLaws.{one_row}

-- ---- the greatest of numbers

pub greatest_most : (xs : List ℕ) (m : ℕ) → AllByRecursion (λ x. x ≤ m) xs → greatest xs ≤ m
greatest_most [] m h = omega arith
greatest_most (x ∷ xs) m h = all_at (λ y. y ≤ m) (x ∷ xs) (greatest (x ∷ xs)) h (greatest_tops (x ∷ xs) (omega arith)).here

fold_max : (a : ℕ) (xs : List ℕ) → fold max a xs ≡ max a (fold max 0 xs)
fold_max a [] = omega arith
fold_max a (x ∷ xs) = let l = fold_max (max a x) xs in let r = fold_max (max 0 x) xs in omega (arith, l, r)

greatest_cons : (x : ℕ) (xs : List ℕ) → greatest (x ∷ xs) ≡ max x (greatest xs)
greatest_cons x xs = let r = fold_max (max 0 x) xs in omega (arith, r)

-- ---- an origin as its operation and arguments

four_whole : (ks : List ℕ) (n f : ℕ) (args : List ℕ) → IsApplication ks n f args → four_places ks f (take (slice_index ks f) args) ≡ args
four_whole ks n f args valid = ap (λ rest. take (slice_index ks f) args ++ rest) (sym valid.unused) ∙ take-append-drop (slice_index ks f) args

from_places : (ks : List ℕ) (n f : ℕ) (xs : List ℕ) → f < length ks → length xs ≡ slice_index ks f → AllByRecursion (λ a. a < n) xs → IsApplication ks n f (four_places ks f xs)
from_places ks n f xs low count earlier =
    let front = take_at xs (replicate (4 - slice_index ks f) 0) (slice_index ks f) count in
    record {
      operation = low;
      count = ap (length {A = ℕ}) front ∙ count;
      earlier = subst (AllByRecursion (λ a. a < n)) (sym front) earlier;
      unused = drop_at xs (replicate (4 - slice_index ks f) 0) (slice_index ks f) count;
    }

-- numbers at which positions stand in a list
record AreNumbersOf (order xs : List ℕ) : Type 0 where
  numbers : List ℕ
  are : map (λ x. slice_index order x) numbers ≡ xs
  within : AllByRecursion (λ x. x < length order) numbers
  count : length numbers ≡ length xs

numbers_of : (order xs : List ℕ) → AllByRecursion (Contains order) xs → AreNumbersOf order xs
numbers_of order [] h = record { numbers = []; are = refl; within = tt; count = refl }
numbers_of order (x ∷ xs) h =
    let rest = numbers_of order xs h.1 in
    let c = h.0 in
    let here : slice_index order c.0 ≡ x = get_or_default order c.0 0 x c.1 ∙ c.2 in
    record {
      numbers = c.0 ∷ rest.numbers;
      are = λ i. here i ∷ rest.are i;
      within = (c.1, rest.within);
      count = ap suc rest.count;
    }

-- ---- arguments are lower

below_greatest : (heights xs : List ℕ) (b : ℕ) → suc (greatest (map (λ a. slice_index heights a) xs)) ≤ b → AllByRecursion (λ q. slice_index heights q < b) xs
below_greatest heights xs b h = low xs (greatest (map (λ a. slice_index heights a) xs)) (greatest_low (map (λ a. slice_index heights a) xs)) h
  where
    low : (ys : List ℕ) (m : ℕ) → AllByRecursion (λ x. x ≤ m) (map (λ a. slice_index heights a) ys) → suc m ≤ b → AllByRecursion (λ q. slice_index heights q < b) ys
    low [] m all le = tt
    low (y ∷ ys) m all le = (let l = all.0 in omega (arith, l, le), low ys m all.1 le)

pub lower_arguments : (ks heights : List ℕ) (h : ℕ) (o : Origin) → h ≡ height_of ks heights o → AllByRecursion (λ a. slice_index heights a < h) (arguments_of ks o)
lower_arguments ks heights h (Gen i) e = tt
lower_arguments ks heights h (Op f args) e = below_greatest heights (take (slice_index ks f) args) h (omega (arith, e))

-- ---- a whole search

module _ (p : Product) (gens vs : List Vector) (s : Search) (whole : IsWholeSearch p gens vs s) (shape : IsShape (arities p)) (different : IsDistinct (pointwise nat_eq) vs) (member : (v : Vector) → Contains vs v ↔ Sg p gens v) where
  is : IsSearch p gens vs s
  is = whole.search

  reached_low : (q : ℕ) → IsReached s q → q < length vs
  reached_low q r = let b = marked_below s.reached.items q ((is.marks q).1 r) in let n = is.marks_count in omega (arith, b, n)

  no_arguments_are : (n f : ℕ) (args : List ℕ) → slice_index (arities p) f ≡ 0 → IsApplication (arities p) n f args → no_arguments ≡ args
  no_arguments_are n f args empty valid = sym (subst (λ k. drop k args ≡ replicate (4 - k) 0) empty valid.unused)

  -- an operation at rows that are reached is visited
  visited_tuple : (f : ℕ) (xs : List ℕ) → f < length (arities p) → 0 < slice_index (arities p) f → length xs ≡ slice_index (arities p) f → AllByRecursion (IsReached s) xs → IsVisited p gens vs s (Op f (four_places (arities p) f xs))
  visited_tuple f xs low some count reached =
      let ns = numbers_of s.order.items xs reached in
      let cut = slices_partition (arities p) f ns.numbers low some (ns.count ∙ count) in
      let laws = bound_laws (arities p) shape in
      let positive : 0 < length ns.numbers = (let c = ns.count in omega (arith, c, count, some)) in
      let top = all_at (λ x. x < length s.order.items) ns.numbers (greatest ns.numbers) ns.within (greatest_tops ns.numbers positive).here in
      let row : slice_row (arities p) cut.slice < length s.order.items = (let e = cut.row in omega (arith, top, e)) in
      let below = (laws.below (length s.order.items) cut.slice (positive_sum (arities p) f low some)).1 row in
      let stands = cut.stands in
      let here : Contains (slice_tuples (arities p) cut.slice) ns.numbers = (cut.number, stands.number, get_or_default (slice_tuples (arities p) cut.slice) cut.number ns.numbers [] stands.number ∙ stands.standing) in
      let t = all_at (IsTupleVisited p gens vs s (slice_operation (arities p) cut.slice)) (slice_tuples (arities p) cut.slice) ns.numbers (whole.slices cut.slice below) here in
      subst (λ (x : ℕ × List ℕ). IsVisited p gens vs s (Op x.0 (four_places (arities p) x.0 x.1))) (λ i. (stands.operation i, ns.are i)) t.visited

  pub visited_at : (o : Origin) → IsOrigin (arities p) (length gens) (length vs) o → AllByRecursion (IsReached s) (arguments_of (arities p) o) → IsVisited p gens vs s o
  visited_at (Gen i) valid reached = whole.generators i valid
  visited_at (Op f args) valid reached = ⊎_elim
      (λ some. subst (λ (xs : List ℕ). IsVisited p gens vs s (Op f xs)) (four_whole (arities p) (length vs) f args valid) (visited_tuple f (take (slice_index (arities p) f) args) valid.operation some valid.count reached))
      (λ low. let empty : slice_index (arities p) f ≡ 0 = omega (arith, low) in subst (λ (xs : List ℕ). IsVisited p gens vs s (Op f xs)) (no_arguments_are (length vs) f args empty valid) (whole.constants f valid.operation empty))
      (cases_lt 0 (slice_index (arities p) f))

  -- where a value stands
  record StandsAt (v : Vector) : Type 0 where
    place : ℕ
    at : slice_get vs place ≡ Some v

  stands : (v : Vector) → Sg p gens v → StandsAt v
  stands v g = let c = (member v).1 g in record { place = c.0; at = slice_get-get_or vs c.0 v c.1 ∙ ap Some c.2 }

  -- each term's value is reached, no higher than the term
  record IsReachedBelow (v : Vector) (h : ℕ) : Type 0 where
    place : ℕ
    at : slice_get vs place ≡ Some v
    reached : IsReached s place
    low : height_in s place ≤ h

  record AreReachedBelow (values : List Vector) (h : ℕ) : Type 0 where
    places : List ℕ
    at : rows_at vs places ≡ values
    reached : AllByRecursion (IsReached s) places
    low : AllByRecursion (λ q. height_in s q ≤ h) places

  by_origin : (o : Origin) (v : Vector) (h : ℕ) → Sg p gens v → IsOrigin (arities p) (length gens) (length vs) o
      → AllByRecursion (IsReached s) (arguments_of (arities p) o) → origin_value p gens vs o ≡ v → height_of (arities p) s.heights.items o ≤ h
      → IsReachedBelow v h
  by_origin o v h g valid reached value low =
      let st = stands v g in
      let near = (visited_at o valid reached).value st.place (st.at ∙ ap Some (sym value)) in
      record {
        place = st.place;
        at = st.at;
        reached = near.reached;
        low = ⊎_elim (λ l. omega (arith, l, low)) (λ e. let x = e.0 in omega (arith, x, low)) near.near;
      }

  mutual
    reach_term : (t : Tree) → IsTerm (arities p) (length gens) t → IsReachedBelow (term_value p gens t) (height t)
    reach_term (Generator i) h = by_origin (Gen i) (slice_index_or gens i []) 0 (record { term = Generator i; is_term = h; value = refl }) h tt refl (omega arith)
    reach_term (Application f ts) h =
        let all = reach_terms ts h.2 in
        let count : length all.places ≡ slice_index (arities p) f = sym (length-map all.places (λ a. slice_index_or vs a [])) ∙ ap (length {A = Vector}) all.at ∙ length-term_values p gens ts ∙ h.1 in
        let front = take_at all.places (replicate (4 - slice_index (arities p) f) 0) (slice_index (arities p) f) count in
        by_origin (Op f (four_places (arities p) f all.places)) (term_value p gens (Application f ts)) (suc (greatest_height ts)) (record { term = Application f ts; is_term = h; value = refl })
        (from_places (arities p) (length vs) f all.places h.0 count (all_weaker (IsReached s) (λ a. a < length vs) reached_low all.places all.reached))
        (subst (AllByRecursion (IsReached s)) (sym front) all.reached)
        (ap (λ (xs : List ℕ). apply p f (rows_at vs xs)) front ∙ ap (apply p f) all.at)
        (let top = greatest_most (map (λ a. slice_index s.heights.items a) all.places) (greatest_height ts) (all_map (λ x. x ≤ greatest_height ts) (λ a. slice_index s.heights.items a) all.places all.low) in
        let e = ap (λ (xs : List ℕ). greatest (map (λ a. slice_index s.heights.items a) xs)) front in
        omega (arith, top, e))

    reach_terms : (ts : Trees) → AreTerms (arities p) (length gens) ts → AreReachedBelow (term_values p gens ts) (greatest_height ts)
    reach_terms none h = record { places = []; at = refl; reached = tt; low = tt }
    reach_terms (more t ts) h =
        let one = reach_term t h.0 in
        let rest = reach_terms ts h.1 in
        record {
          places = one.place ∷ rest.places;
          at = λ i. get_or_from_slice_get vs one.place (term_value p gens t) [] one.at i ∷ rest.at i;
          reached = (one.reached, rest.reached);
          low = (let l = one.low in omega (arith, l), all_weaker (λ q. height_in s q ≤ greatest_height ts) (λ q. height_in s q ≤ max (height t) (greatest_height ts)) (λ q l. omega (arith, l)) rest.places rest.low);
        }

  here : (q : ℕ) → q < length vs → slice_get vs q ≡ Some (slice_index_or vs q [])
  here q h = slice_get-get_or vs q [] h

  inside : (q : ℕ) → q < length vs → Sg p gens (slice_index_or vs q [])
  inside q h = (member (slice_index_or vs q [])).0 (q, h, get_or_default vs q (slice_index_or vs q []) [] h)

  -- each row is reached
  pub all_reached : (q : ℕ) → q < length vs → IsReached s q
  all_reached q h =
      let g = inside q h in
      let r = reach_term g.term g.is_term in
      subst (IsReached s) (one_row vs different r.place q (slice_index_or vs q []) (r.at ∙ ap Some g.value) (here q h)) r.reached

  -- no term for it is lower
  lowest : (q : ℕ) → q < length vs → (t : Tree) → IsTerm (arities p) (length gens) t → term_value p gens t ≡ slice_index_or vs q [] → height_in s q ≤ height t
  lowest q h t is_t value =
      let r = reach_term t is_t in
      let same = one_row vs different r.place q (slice_index_or vs q []) (r.at ∙ ap Some value) (here q h) in
      subst (λ k. height_in s k ≤ height t) same r.low

  -- and one is as high
  record HasTerm (v : Vector) (h : ℕ) : Type 0 where
    term : Tree
    is_term : IsTerm (arities p) (length gens) term
    value : term_value p gens term ≡ v
    reached : height term ≡ h

  record HaveTerms (places : List ℕ) : Type 0 where
    terms : Trees
    count : count_of terms ≡ length places
    are_terms : AreTerms (arities p) (length gens) terms
    values : term_values p gens terms ≡ rows_at vs places
    reached : greatest_height terms ≡ greatest (map (λ a. slice_index s.heights.items a) places)

  terms_for : (b : ℕ) → ((q : ℕ) → IsReached s q → height_in s q < b → HasTerm (slice_index_or vs q []) (height_in s q)) → (places : List ℕ)
      → AllByRecursion (IsReached s) places → AllByRecursion (λ q. height_in s q < b) places → HaveTerms places
  terms_for b each [] r l = record { terms = none; count = refl; are_terms = tt; values = refl; reached = refl }
  terms_for b each (q ∷ qs) r l =
      let one = each q r.0 l.0 in
      let rest = terms_for b each qs r.1 l.1 in
      record {
        terms = more one.term rest.terms;
        count = ap suc rest.count;
        are_terms = (one.is_term, rest.are_terms);
        values = λ i. one.value i ∷ rest.values i;
        reached = (λ i. max (one.reached i) (rest.reached i)) ∙ sym (greatest_cons (height_in s q) (map (λ a. slice_index s.heights.items a) qs));
      }

  by_found : (b : ℕ) → ((q : ℕ) → IsReached s q → height_in s q < b → HasTerm (slice_index_or vs q []) (height_in s q))
      → (v : Vector) (h : ℕ) (o : Origin) → h ≤ b → IsOrigin (arities p) (length gens) (length vs) o → origin_value p gens vs o ≡ v
      → h ≡ height_of (arities p) s.heights.items o → AllByRecursion (IsReached s) (arguments_of (arities p) o) → HasTerm v h
  by_found b each v h (Gen i) le valid value e reached = record { term = Generator i; is_term = valid; value = value; reached = sym e }
  by_found b each v h (Op f args) le valid value e reached =
      let ts = terms_for b each (take (slice_index (arities p) f) args) reached (below_greatest s.heights.items (take (slice_index (arities p) f) args) b (omega (arith, le, e))) in
      record {
        term = Application f ts.terms;
        is_term = (valid.operation, ts.count ∙ valid.count, ts.are_terms);
        value = ap (apply p f) ts.values ∙ value;
        reached = ap suc ts.reached ∙ sym e;
      }

  has_term : (b q : ℕ) → IsReached s q → height_in s q < b → HasTerm (slice_index_or vs q []) (height_in s q)
  has_term zero q r l = absurd (omega (arith, l))
  has_term (suc b) q r l =
      let f = is.found q r in
      by_found b (has_term b) (slice_index_or vs q []) (height_in s q) (origin_in s q) (omega (arith, l)) f.valid (sym (get_or_from_slice_get vs q (origin_value p gens vs (origin_in s q)) [] f.value)) f.reaches f.arguments

  pub is_height : (q : ℕ) → q < length vs → IsHeight p gens (slice_index_or vs q []) (height_in s q)
  is_height q h =
      let t = has_term (suc (height_in s q)) q (all_reached q h) (omega arith) in
      record { term = t.term; is_term = t.is_term; value = t.value; reached = t.reached; least = lowest q h }

  arguments_reached : (o : Origin) → IsOrigin (arities p) (length gens) (length vs) o → AllByRecursion (IsReached s) (arguments_of (arities p) o)
  arguments_reached (Gen i) valid = tt
  arguments_reached (Op f args) valid = all_weaker (λ a. a < length vs) (IsReached s) all_reached (take (slice_index (arities p) f) args) valid.earlier

  pub is_first : (q : ℕ) → q < length vs → IsFirstOrigin p gens vs s.heights.items (slice_index_or vs q []) (height_in s q) (origin_in s q)
  is_first q h =
      let f = is.found q (all_reached q h) in
      record {
        origin = f.valid;
        value = sym (get_or_from_slice_get vs q (origin_value p gens vs (origin_in s q)) [] f.value);
        reaches = f.reaches;
        first = λ other valid value reaches.
            let near = (visited_at other valid (arguments_reached other valid)).value q (here q h ∙ ap Some (sym value)) in
            ⊎_elim (λ low. absurd (omega (arith, low, reaches))) (λ e. e.1) near.near;
      }
