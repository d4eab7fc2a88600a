-- The places of elements in a set, the tuples of its members in order, and the first that an operation takes out of it.
use Rattle.std.proofs.Common.{◌≡◌, ◌≢◌, ℕ, zero, suc, ◌+◌, ◌-◌, ◌<◌, ◌≤◌, false, List, [], ◌∷◌, ◌++◌, length, map, take, drop, get_or, replicate, refl, sym, ap, ◌∙◌, subst, arith, ⊎_elim, Some, None}
use Rattle.std.specs.Prelude.{Option, ◌↔◌, ◌==◌, slice_index, slice_get, position, Contains}
use Rattle.std.specs.List.{AllByRecursion, AllZip, flat_map, range_with_len}
use Rattle.std.specs.List.Sorted.{IsStrictlySortedBy, IsStrictlyIncreasing}
use Rattle.std.specs.Option.{unwrap_or}
use Rattle.std.specs.Cmp.Lexicographic.{slice_cmp}
use Rattle.std.specs.Ordering.{nat_cmp, ordering_then}
use Rattle.std.specs.declared.cmp.Ordering.{Ordering}
use Rattle.std.specs.declared.cmp.Ordering.TheVariants.{Less, Equal, Greater}
use Rattle.std.proofs.lemmas.Bool.{cases_lt, cases_eq, eqb-true, eqb-false}
use Rattle.std.proofs.lemmas.List.{get_or-map, get_or-take, length-take-le, length-map, take-append-drop, get_or_default}
use Rattle.std.proofs.lemmas.List.Elements.{All-from_recursion}
use Rattle.std.proofs.lemmas.List.FromFn.{get_or-map-range_with_len}
use Rattle.std.proofs.lemmas.List.Quantifiers.{position-Some}
use Rattle.std.proofs.lemmas.Map.Keys.{sorted_from_strictly_increasing, Less-from_sorted}
use Rattle.std.proofs.lemmas.Map.Views.{length-le_from_below}
use Rattle.std.proofs.lemmas.Option.{slice_get-get_or, slice_get_within}
use Rattle.ua_table.specs.Algebras.{FiniteAlgebra, Operation, IsAlgebra, arities_of, numeral, value_at}
use Rattle.ua_table.proofs.Choices.{chosen, choice_from}
use Rattle.ua_table.proofs.Codes.{same_digits}
use Rattle.ua_table.proofs.Lists.{Contains-head, Contains-tail, Contains-map_from, Contains-flat_map_from, all_at, all_append, all_from_contains, all_map, all_weaker, all_take_more}
use Rattle.ua_table.proofs.Searches.{none_passes}
use Rattle.ua_prod.specs.Constructions.{value_of, tuples_among, place_among}
use Rattle.ua_prod.specs.Escapes.{IsEscape, IsFirstEscape}
use Rattle.ua_prod.specs.inner.Searches.{AreArguments, Keeps, IsFirstEscapeOf}
use Rattle.ua_prod.proofs.ClashLaws.{arity_is, size_is, value_is, head_not}
use Rattle.ua_prod.proofs.Numerals.{cmp_equal, cmp-append, cmp_same}
use Rattle.ua_prod.proofs.RenumberingLaws.{all_mapped}

-- ---- the place of an element among the members

pub place_below : (set : List ℕ) (x : ℕ) → 0 < length set → place_among set x < length set
place_below set x some = by (position (λ m. m == x) set) refl
  where
    by : (r : Option ℕ) → position (λ m. m == x) set ≡ r → unwrap_or r 0 < length set
    by None e = some
    by (Some i) e = (position-Some (λ m. m == x) set i 0 e).0

pub places_below : (set : List ℕ) (n : ℕ) → 0 < length set → AllByRecursion (λ k. k < length set) (map (place_among set) (range_with_len 0 n))
places_below set n some = all_mapped (λ k. k < length set) (place_among set) (λ x. place_below set x some) (range_with_len 0 n)

-- a member stands at its place
at_place : (set : List ℕ) (x : ℕ) → Contains set x → slice_index set (place_among set x) ≡ x
at_place set x c = by (position (λ m. m == x) set) refl
  where
    by : (r : Option ℕ) → position (λ m. m == x) set ≡ r → slice_index set (unwrap_or r 0) ≡ x
    by None e = absurd (eqb-false x x (all_at (λ m. (m == x) ≡ false) set x (none_passes (λ m. m == x) set e) c) refl)
    by (Some i) e = let found = position-Some (λ m. m == x) set i 0 e in eqb-true (slice_index set i) x found.1

-- and no other element does
pub member_at : (set : List ℕ) (x : ℕ) → 0 < length set → (slice_index set (place_among set x) ≡ x) ↔ Contains set x
member_at set x some = (
  λ e. (place_among set x, place_below set x some, get_or_default set (place_among set x) x 0 (place_below set x some) ∙ e),
  at_place set x,
)

-- a set has at most as many members as there are elements
pub set_few : (set : List ℕ) (n : ℕ) → IsStrictlyIncreasing set → AllByRecursion (λ x. x < n) set → length set ≤ n
set_few set n up low = length-le_from_below n set (sorted_from_strictly_increasing set up) (All-from_recursion (λ x. x < n) set low)

-- the number that is read of an element
pub number_read : (set numbers : List ℕ) (x d : ℕ) → numbers ≡ map (place_among set) (range_with_len 0 (length numbers)) → x < length numbers → get_or numbers x d ≡ place_among set x
number_read set numbers x d is w = ap (λ (ns : List ℕ). get_or ns x d) is ∙ get_or-map-range_with_len (place_among set) 0 (length numbers) x x d w (omega arith)

-- ---- tuples of members, in lexicographic order

sorted_append : {K : Type 0} (c : K → K → Ordering) (xs ys : List K) → IsStrictlySortedBy c xs → IsStrictlySortedBy c ys → ((x y : K) → Contains xs x → Contains ys y → c x y ≡ Less) → IsStrictlySortedBy c (xs ++ ys)
unfolding IsStrictlySortedBy
sorted_append c [] ys hx hy cross = hy
sorted_append c (x ∷ xs) ys hx hy cross = (
  all_append (λ y. c x y ≡ Less) xs ys hx.0 (all_from_contains (λ y. c x y ≡ Less) ys (λ y k. cross x y (Contains-head x xs) k)),
  sorted_append c xs ys hx.1 hy (λ z y k l. cross z y (Contains-tail x z xs k) l),
)

abbrev InOrder : List (List ℕ) → Type 0
InOrder ts = IsStrictlySortedBy (slice_cmp nat_cmp) ts

sorted_behind : (y : ℕ) (ts : List (List ℕ)) → InOrder ts → InOrder (map (λ t. y ∷ t) ts)
unfolding IsStrictlySortedBy
sorted_behind y [] h = tt
sorted_behind y (t ∷ ts) h = (
  all_map (λ (s : List ℕ). slice_cmp nat_cmp (y ∷ t) s ≡ Less) (λ s. y ∷ s) ts
      (all_weaker (λ (s : List ℕ). slice_cmp nat_cmp t s ≡ Less) (λ s. slice_cmp nat_cmp (y ∷ t) (y ∷ s) ≡ Less)
      (λ s e. ap (λ o. ordering_then o (slice_cmp nat_cmp t s)) (cmp_equal y) ∙ e) ts h.0),
  sorted_behind y ts h.1,
)

sorted_flat : (xs : List ℕ) (ts : List (List ℕ)) → IsStrictlySortedBy nat_cmp xs → InOrder ts → InOrder (flat_map (λ x. map (λ t. x ∷ t) ts) xs)
unfolding IsStrictlySortedBy
sorted_flat [] ts hx ht = tt
sorted_flat (x ∷ xs) ts hx ht =
    sorted_append (slice_cmp nat_cmp) (map (λ t. x ∷ t) ts) (flat_map (λ y. map (λ t. y ∷ t) ts) xs) (sorted_behind x ts ht) (sorted_flat xs ts hx.1 ht)
    (λ s u cs cu.
    let left = Contains-map_from (λ t. x ∷ t) s ts cs in
    let right = Contains-flat_map_from (λ y. map (λ t. y ∷ t) ts) u xs cu in
    let there = Contains-map_from (λ t. right.0 ∷ t) u ts right.2 in
    let less : nat_cmp x right.0 ≡ Less = all_at (λ y. nat_cmp x y ≡ Less) xs right.0 hx.0 right.1 in
    sym (λ i. slice_cmp nat_cmp (left.2 i) (there.2 i)) ∙ ap (λ o. ordering_then o (slice_cmp nat_cmp left.0 there.0)) less)

pub sorted_tuples : (set : List ℕ) (k : ℕ) → IsStrictlyIncreasing set → InOrder (tuples_among set k)
unfolding IsStrictlySortedBy
sorted_tuples set zero h = (tt, tt)
sorted_tuples set (suc k) h = sorted_flat set (tuples_among set k) (sorted_from_strictly_increasing set h) (sorted_tuples set k h)

-- ---- which tuples these are

pub record AreMembers (set : List ℕ) (k : ℕ) (t : List ℕ) : Type 0 where
  pub count : length t ≡ k
  pub members : AllByRecursion (Contains set) t

pub tuple_from : (set : List ℕ) (k : ℕ) (t : List ℕ) → Contains (tuples_among set k) t → AreMembers set k t
tuple_from set k t c = by k t (choice_from (replicate k set) t c)
  where
    by : (k : ℕ) (t : List ℕ) → AllZip (λ (xs : List ℕ) x. Contains xs x) (replicate k set) t → AreMembers set k t
    by zero [] h = record { count = refl; members = tt }
    by zero (x ∷ t) h = absurd h
    by (suc k) [] h = absurd h
    by (suc k) (x ∷ t) h = let rest = by k t h.1 in record { count = ap suc rest.count; members = (h.0, rest.members) }

pub tuple_of_members : (set : List ℕ) (k : ℕ) (t : List ℕ) → length t ≡ k → AllByRecursion (Contains set) t → Contains (tuples_among set k) t
tuple_of_members set k t count h = chosen (replicate k set) t (by k t count h)
  where
    by : (k : ℕ) (t : List ℕ) → length t ≡ k → AllByRecursion (Contains set) t → AllZip (λ (xs : List ℕ) x. Contains xs x) (replicate k set) t
    by zero [] e h = tt
    by zero (x ∷ t) e h = absurd (omega (arith, e))
    by (suc k) [] e h = absurd (omega (arith, e))
    by (suc k) (x ∷ t) e h = (h.0, by k t (omega (arith, e)) h.1)

-- ---- one operation

module _ (o : Operation) (set : List ℕ) where
  abbrev pub Stays : List ℕ → Type 0
  Stays t = Contains set (value_of o t)

  pub keeps_all : AllByRecursion Stays (tuples_among set o.arity) → Keeps o set
  keeps_all all xs count h = all_at Stays (tuples_among set o.arity) xs all (tuple_of_members set o.arity xs count h)

  pub stays_more : (i : ℕ) → i < length (tuples_among set o.arity) → AllByRecursion Stays (take i (tuples_among set o.arity)) → Stays (get_or (tuples_among set o.arity) i []) → AllByRecursion Stays (take (i + 1) (tuples_among set o.arity))
  stays_more i w before here = all_take_more Stays (tuples_among set o.arity) i (get_or (tuples_among set o.arity) i []) before (slice_get-get_or (tuples_among set o.arity) i [] w) here

  pub first_among : (i : ℕ) (args : List ℕ) → IsStrictlyIncreasing set → AllByRecursion (λ x. x < o.size) set → i < length (tuples_among set o.arity)
      → AllByRecursion Stays (take i (tuples_among set o.arity)) → AreArguments o (numeral o.size (get_or (tuples_among set o.arity) i [])) args
      → ¬ Stays (get_or (tuples_among set o.arity) i []) → IsFirstEscapeOf o set args
  first_among i args up low w before are out =
      let tuples = tuples_among set o.arity in
      let t = get_or tuples i [] in
      let from = tuple_from set o.arity (get_or (tuples_among set o.arity) i []) (i, w, get_or_default tuples i (get_or (tuples_among set o.arity) i []) [] w) in
      let below = all_weaker (Contains set) (λ x. x < o.size) (λ x c. all_at (λ y. y < o.size) set x low c) (get_or (tuples_among set o.arity) i []) from.members in
      let is : take o.arity args ≡ get_or (tuples_among set o.arity) i [] = same_digits o.size (take o.arity args) (get_or (tuples_among set o.arity) i []) are.below below (are.count ∙ sym from.count) are.number_is in
      record {
        arguments = record { count = are.count; below = are.below; number_is = refl; unused = are.unused };
        members = subst (AllByRecursion (Contains set)) (sym is) from.members;
        outside = λ c. out (subst Stays is c);
        first = λ xs count h outside.
            let there = tuple_of_members set o.arity xs count h in
            let j = there.0 in
            ⊎_elim
            (λ less. absurd (outside (
            let n = length-take-le i (tuples_among set o.arity) (omega (arith, w)) in
            let stays = All-from_recursion Stays (take i (tuples_among set o.arity)) before there.0 xs (omega (arith, less, n)) in
            subst Stays (get_or-take i (tuples_among set o.arity) there.0 xs less ∙ there.2) stays)))
            (λ more. ⊎_elim
            (λ same. λ g.
            let equal : take o.arity args ≡ xs = is ∙ ap (λ k. get_or (tuples_among set o.arity) k []) (sym same) ∙ get_or_default (tuples_among set o.arity) there.0 [] xs there.1 ∙ there.2 in
            let e : slice_cmp nat_cmp (take o.arity args) xs ≡ Equal = ap (λ (ys : List ℕ). slice_cmp nat_cmp ys xs) equal ∙ cmp_same xs in
            cc)
            (λ apart. λ g.
            let less = Less-from_sorted (slice_cmp nat_cmp) (tuples_among set o.arity) i there.0 [] (sorted_tuples set o.arity up) (omega (arith, more, apart)) there.1 in
            let e : slice_cmp nat_cmp (take o.arity args) xs ≡ Less = (λ l. slice_cmp nat_cmp (is l) (sym (get_or_default (tuples_among set o.arity) there.0 [] xs there.1 ∙ there.2) l)) ∙ less in
            cc)
            (cases_eq there.0 i))
            (cases_lt there.0 i);
      }

-- the value that is read at the number of a tuple
pub value_read : (o : Operation) (set numbers values : List ℕ) (i number : ℕ) → numbers ≡ map (numeral o.size) (tuples_among set o.arity) → values ≡ o.values → i < length numbers → number ≡ get_or numbers i number
    → (i < length (tuples_among set o.arity)) × (number ≡ numeral o.size (get_or (tuples_among set o.arity) i [])) × (slice_index values number ≡ value_of o (get_or (tuples_among set o.arity) i []))
value_read o set numbers values i number is same w read =
    let n = length-map (tuples_among set o.arity) (numeral o.size) in
    let m = ap length is in
    let there : i < length (tuples_among set o.arity) = omega (arith, n, m, w) in
    let at : number ≡ numeral o.size (get_or (tuples_among set o.arity) i []) = read ∙ ap (λ (ns : List ℕ). get_or ns i number) is ∙ get_or-map (numeral o.size) (tuples_among set o.arity) i [] number there in
    (there, at, (λ j. slice_index (same j) (at j)))

-- ---- all operations

-- an operation takes members to members
abbrev pub KeepsAt : FiniteAlgebra → List ℕ → ℕ → Type 0
KeepsAt a set f = (xs : List ℕ) → length xs ≡ slice_index (arities_of a) f → AllByRecursion (Contains set) xs → Contains set (value_at a f xs)

module _ (a : FiniteAlgebra) (set : List ℕ) (f : ℕ) (o : Operation) (alg : IsAlgebra a) (stands : slice_get a.operations f ≡ Some o) where
  value_same : (xs : List ℕ) → value_of o xs ≡ value_at a f xs
  value_same xs = ap (λ n. slice_index o.values (numeral n xs)) (size_is a f o alg stands) ∙ sym (value_is a f o stands xs)

  pub keeps_at : Keeps o set → KeepsAt a set f
  keeps_at keeps xs count h = subst (Contains set) (value_same xs) (keeps xs (count ∙ arity_is a f o stands) h)

  pub first_in_order : (args : List ℕ) → IsFirstEscapeOf o set args → ((g : ℕ) → g < f → KeepsAt a set g) → IsFirstEscape a set f args
  first_in_order args h before =
      let k : slice_index (arities_of a) f ≡ o.arity = arity_is a f o stands in
      let size = size_is a f o alg stands in
      record {
        escape = record {
          application = record {
            operation = (let w = slice_get_within a.operations f o stands in let l = length-map a.operations (λ (w : Operation). w.arity) in omega (arith, w, l));
            count = (λ i. length (take (k i) args)) ∙ h.arguments.count ∙ sym k;
            earlier = subst (λ m. AllByRecursion (λ x. x < a.size) (take m args)) (sym k) (subst (λ n. AllByRecursion (λ x. x < n) (take o.arity args)) size h.arguments.below);
            unused = (λ i. drop (k i) args) ∙ h.arguments.unused ∙ (λ i. replicate {A = ℕ} (4 - sym k i) 0);
          };
          members = subst (λ m. AllByRecursion (Contains set) (take m args)) (sym k) h.members;
          outside = λ c. h.outside (subst (Contains set) ((λ i. value_at a f (take (k i) args)) ∙ sym (value_same (take o.arity args))) c);
        };
        first = λ g xs e. head_not f g args xs
            (λ low. e.outside (before g low (take (slice_index (arities_of a) g) xs) e.application.count e.members))
            (λ same. same_operation xs (subst (λ i. IsEscape a set i xs) (sym same) e));
      }
    where
      last : (r : Ordering) → r ≢ Greater → ordering_then r Equal ≢ Greater
      last Less h g = cc
      last Equal h g = cc
      last Greater h g = h g

      cut : (n : ℕ) (xs : List ℕ) (m : ℕ) → drop n xs ≡ replicate m 0 → xs ≡ take n xs ++ replicate m 0
      cut n xs m e = sym (take-append-drop n xs) ∙ ap (λ (ys : List ℕ). take n xs ++ ys) e

      same_operation : (xs : List ℕ) → IsEscape a set f xs → slice_cmp nat_cmp args xs ≢ Greater
      same_operation xs e =
          let k : slice_index (arities_of a) f ≡ o.arity = arity_is a f o stands in
          let count : length (take o.arity xs) ≡ o.arity = (λ i. length (take (sym k i) xs)) ∙ e.application.count ∙ k in
          let unused : drop o.arity xs ≡ replicate (4 - o.arity) 0 = (λ i. drop (sym k i) xs) ∙ e.application.unused ∙ (λ i. replicate {A = ℕ} (4 - k i) 0) in
          let members = subst (λ m. AllByRecursion (Contains set) (take m xs)) k e.members in
          let outside : ¬ Contains set (value_of o (take o.arity xs)) = λ c. e.outside (subst (Contains set) (value_same (take o.arity xs) ∙ (λ i. value_at a f (take (sym k i) xs))) c) in
          let whole : slice_cmp nat_cmp args xs ≡ ordering_then (slice_cmp nat_cmp (take o.arity args) (take o.arity xs)) Equal =
          (λ i. slice_cmp nat_cmp (cut o.arity args (4 - o.arity) h.arguments.unused i) (cut o.arity xs (4 - o.arity) unused i))
          ∙ cmp-append (take o.arity args) (take o.arity xs) (replicate (4 - o.arity) 0) (replicate (4 - o.arity) 0) (h.arguments.count ∙ sym count)
          ∙ ap (ordering_then (slice_cmp nat_cmp (take o.arity args) (take o.arity xs))) (cmp_same (replicate (4 - o.arity) 0)) in
          λ g. last (slice_cmp nat_cmp (take o.arity args) (take o.arity xs)) (h.first (take o.arity xs) count members outside) (sym whole ∙ g)
