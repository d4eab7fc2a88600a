-- The search of the rows of a listing, origin after origin.
use Rattle.std.proofs.Common.{◌≡◌, ◌≢◌, ⊎_elim, ℕ, suc, ◌+◌, ◌-◌, ◌%◌, ◌<◌, ◌≤◌, List, [], ◌∷◌, ◌++◌, length, length-append, append-nil, append_assoc, map, take, drop, get_or, replicate, refl, sym, ap, ◌∙◌, subst, arith, below_more}
use Rattle.std.specs.Prelude.{Contains, slice_index, sum}
use Rattle.std.specs.List.{AllByRecursion}
use Rattle.std.proofs.lemmas.Bool.{cases_lt}
use Rattle.std.proofs.lemmas.List.{length-map, get_or_append_left, take_at, drop_at, get_or_default}
use Rattle.std.proofs.Math.Nat.{mod-lt}
use Rattle.ua_table.specs.declared.origins.Origin.{Origin}
use Rattle.ua_table.specs.declared.origins.Origin.TheVariants.{Gen, Op}
use Rattle.ua_table.specs.Algebras.{Vector, Product, arities}
use Rattle.ua_table.specs.declared.limits.TheConstants.{BUDGET}
use Rattle.ua_table.specs.Numbering.{greatest, four_places, IsShape, Fits}
use Rattle.ua_table.specs.Origins.{origin_value}
use Rattle.ua_table.specs.Slices.{slice_unit, slice_row, slice_operation, slice_tuples, bound}
use Rattle.ua_table.proofs.Choices.{greatest_low, greatest_tops}
use Rattle.ua_table.proofs.Lists.{all_at, all_weaker, all_map, all_append, Contains-map, Contains-head, Contains-tail, Contains-slice_get}
use Rattle.ua_table.proofs.Rows.{slices_of_rows}
use Rattle.ua_table.proofs.SliceLaws.{bound_laws, slices_partition}
use Rattle.ua_table.proofs.Units.{place_from}
use Rattle.ua_listing.specs.inner.Searches.{height_in, height_number, IsReached, IsNearTop, IsSearch, IsVisited, ReachesMore, IsTop, MayVisit, HasReachedBy, AreGeneratorsVisited}
use Rattle.ua_listing.specs.inner.Searches.{AreConstantsVisited, no_arguments, application, IsTupleVisited, IsSliceVisited, AreSlicesVisited, IsRowTable, IsSearchOf, HasReachedIn}
use Rattle.ua_listing.specs.inner.Searches.{MayVisitIn, GoesOnTo}
use Rattle.ua_listing.specs.declared.searches.Search.{Search}
use Rattle.ua_listing.specs.declared.searches.Table.{Table}
use Rattle.ua_listing.proofs.MarkLaws.{marked_below}
use Rattle.ua_table.proofs.Members.{member_at}
use Rattle.ua_listing.proofs.SearchLaws.{later_itself, later_chain, later_visited, total_below}

-- a value that is no row
pub absent : (p : Product) (gens vs : List Vector) (s : Search) (h : ℕ) (o : Origin) → IsSearch p gens vs s → IsTop s h → MayVisit p gens vs s h o → (Contains vs (origin_value p gens vs o) → ⊥) → HasReachedBy p gens vs s s h o
absent p gens vs s h o is top may none = record {
  search = is;
  later = later_itself (arities p) s;
  top = top;
  visited = record {
    arguments = may.arguments;
    value = λ q e. absurd (none (Contains-slice_get vs q (origin_value p gens vs o) e));
  };
}

-- ---- going on

pub goes_on_start : (t : Table) (s : Search) (h : ℕ) → IsSearchOf t s → IsTop s h → GoesOnTo t s s h
goes_on_start t s h is top = record { search = is; later = later_itself (arities t.operations) s; top = top }

pub goes_on_chain : (t : Table) (s u new : Search) (h : ℕ) → GoesOnTo t s u h → GoesOnTo t u new h → GoesOnTo t s new h
goes_on_chain t s u new h g k = record { search = k.search; later = later_chain (arities t.operations) s u new g.later k.later; top = k.top }

pub goes_on_more : (t : Table) (s u new : Search) (h : ℕ) (o : Origin) → GoesOnTo t s u h → HasReachedIn t u new h o → GoesOnTo t s new h
goes_on_more t s u new h o g k = record { search = k.search; later = later_chain (arities t.operations) s u new g.later k.later; top = k.top }

-- ---- generators and constants

pub may_generator : (p : Product) (gens vs : List Vector) (s : Search) (i : ℕ) → i < length gens → MayVisit p gens vs s 0 (Gen i)
may_generator p gens vs s i h = record { valid = h; arguments = tt; height = refl }

module _ (p : Product) (gens vs : List Vector) (s new : Search) (n h : ℕ) where
  pub generators_more : AreGeneratorsVisited p gens vs s n → HasReachedBy p gens vs s new h (Gen n) → AreGeneratorsVisited p gens vs new (n + 1)
  generators_more before k = below_more _ _ (λ i low. later_visited p gens vs s new k.later (Gen i) (before i low)) k.visited

  pub constants_more : AreConstantsVisited p gens vs s n → HasReachedBy p gens vs s new h (Op n no_arguments) → AreConstantsVisited p gens vs new (n + 1)
  constants_more before k = below_more _ _ (λ f low e. later_visited p gens vs s new k.later (Op f no_arguments) (before f low e)) (λ e. k.visited)

pub constants_skip : (p : Product) (gens vs : List Vector) (s : Search) (n : ℕ) → AreConstantsVisited p gens vs s n → (slice_index (arities p) n ≢ 0) → AreConstantsVisited p gens vs s (n + 1)
constants_skip p gens vs s n before other = below_more _ _ before (λ e. absurd (other e))

pub generators_later : (p : Product) (gens vs : List Vector) (s new : Search) (n : ℕ) → ReachesMore (arities p) s new → AreGeneratorsVisited p gens vs s n → AreGeneratorsVisited p gens vs new n
generators_later p gens vs s new n l h = λ i low. later_visited p gens vs s new l (Gen i) (h i low)

pub constants_later : (p : Product) (gens vs : List Vector) (s new : Search) (n : ℕ) → ReachesMore (arities p) s new → AreConstantsVisited p gens vs s n → AreConstantsVisited p gens vs new n
constants_later p gens vs s new n l h = λ f low e. later_visited p gens vs s new l (Op f no_arguments) (h f low e)

-- ---- the tuples of a slice

-- the greatest image is that of a member whose image is not below another
greatest_image : (g : ℕ → ℕ) (xs : List ℕ) (m : ℕ) → Contains xs m → AllByRecursion (λ x. g x ≤ g m) xs → greatest (map g xs) ≡ g m
greatest_image g xs m c h =
    let some : 0 < length (map g xs) = (let low = c.1 in let n = length-map xs g in omega (arith, low, n)) in
    let least = all_at (λ y. y ≤ greatest (map g xs)) (map g xs) (g m) (greatest_low (map g xs)) (Contains-map g m xs c) in
    let most = all_at (λ y. y ≤ g m) (map g xs) (greatest (map g xs)) (all_map (λ y. y ≤ g m) g xs h) (greatest_tops (map g xs) some).here in
    omega (arith, least, most)

numbers_kept : (ks : List ℕ) (s new : Search) → ReachesMore ks s new → (xs : List ℕ) → AllByRecursion (λ x. x < length s.order.items) xs → map (λ x. slice_index new.order.items x) xs ≡ map (λ x. slice_index s.order.items x) xs
numbers_kept ks s new l [] h = refl
numbers_kept ks s new l (x ∷ xs) h = λ i. (ap (λ (o : List ℕ). get_or o x 0) l.order ∙ get_or_append_left s.order.items l.rest 0 x h.0) i ∷ numbers_kept ks s new l xs h.1 i

later_length : (ks : List ℕ) (s new : Search) → ReachesMore ks s new → length s.order.items ≤ length new.order.items
later_length ks s new l = let e = ap (length {A = ℕ}) l.order in let n = length-append s.order.items l.rest in omega (arith, e, n)

module _ (p : Product) (gens vs : List Vector) (s new : Search) (l : ReachesMore (arities p) s new) where
  tuple_later : (f : ℕ) (tuple : List ℕ) → IsTupleVisited p gens vs s f tuple → IsTupleVisited p gens vs new f tuple
  tuple_later f tuple h = record {
    within = all_weaker (λ x. x < length s.order.items) (λ x. x < length new.order.items) (λ x low. let n = later_length (arities p) s new l in omega (arith, low, n)) tuple h.within;
    visited = subst (λ (xs : List ℕ). IsVisited p gens vs new (Op f (four_places (arities p) f xs))) (sym (numbers_kept (arities p) s new l tuple h.within)) (later_visited p gens vs s new l (application (arities p) s f tuple) h.visited);
  }

  pub slice_later : (k : ℕ) → IsSliceVisited p gens vs s k → IsSliceVisited p gens vs new k
  slice_later k h = all_weaker (IsTupleVisited p gens vs s (slice_operation (arities p) k)) (IsTupleVisited p gens vs new (slice_operation (arities p) k)) (tuple_later (slice_operation (arities p) k)) (slice_tuples (arities p) k) h

  pub slices_later : (n : ℕ) → AreSlicesVisited p gens vs s n → AreSlicesVisited p gens vs new n
  slices_later n h = λ k low. slice_later k (h k low)

  pub slices_more : (n : ℕ) → AreSlicesVisited p gens vs s n → IsSliceVisited p gens vs new n → AreSlicesVisited p gens vs new (n + 1)
  slices_more n h here = below_more _ _ (λ k low. slice_later k (h k low)) here

-- a slice of the row that was reached as number m
pub record IsSliceOf (ks : List ℕ) (m k : ℕ) : Type 0 where
  pub some : 0 < sum ks
  pub row : slice_row ks k ≡ m

pub slice_between : (ks : List ℕ) (m k : ℕ) → IsShape ks → bound ks m ≤ k → k < bound ks (m + 1) → IsSliceOf ks m k
slice_between ks m k shape high low =
    let laws = bound_laws ks shape in
    let some = laws.some (m + 1) k low in
    let under = (laws.below (m + 1) k some).0 low in
    let over : slice_row ks k < m → ⊥ = λ r. (let b = (laws.below m k some).1 r in omega (arith, b, high)) in
    record { some = some; row = ⊎_elim (λ r. absurd (over r)) (λ r. omega (arith, r, under)) (cases_lt (slice_row ks k) m) }

-- its tuples have it as their greatest number
pub record IsTupleOf (ks : List ℕ) (m f : ℕ) (tuple : List ℕ) : Type 0 where
  pub operation : f < length ks
  pub arity : length tuple ≡ slice_index ks f
  pub low : AllByRecursion (λ x. x ≤ m) tuple
  pub here : Contains tuple m

pub tuple_of_slice : (ks : List ℕ) (m k : ℕ) (tuple : List ℕ) → IsSliceOf ks m k → Contains (slice_tuples ks k) tuple → IsTupleOf ks m (slice_operation ks k) tuple
tuple_of_slice ks m k tuple is c =
    let f = slice_operation ks k in
    let of = slices_of_rows ks k tuple is.some c in
    let spot = place_from ks (slice_unit ks k % sum ks) (mod-lt (slice_unit ks k) is.some) in
    let some : 0 < slice_index ks f = (let w = spot.place in omega (arith, w)) in
    let cut = slices_partition ks f tuple of.operation some of.arity in
    let same = cut.only k c.0 (record { operation = refl; number = c.1; standing = get_or_default (slice_tuples ks k) c.0 [] tuple c.1 ∙ c.2 }) in
    let top : greatest tuple ≡ m = sym cut.row ∙ ap (slice_row ks) (sym same.0) ∙ is.row in
    record {
      operation = of.operation;
      arity = of.arity;
      low = subst (λ r. AllByRecursion (λ x. x ≤ r) tuple) is.row of.low;
      here = subst (Contains tuple) top (greatest_tops tuple (let a = of.arity in omega (arith, a, some))).here;
    }

-- an operation at rows that are reached
module _ (p : Product) (gens vs : List Vector) (s : Search) (is : IsSearch p gens vs s) (m f : ℕ) (tuple : List ℕ) (of : IsTupleOf (arities p) m f tuple) (row : m < length s.order.items) where
  within : AllByRecursion (λ x. x < length s.order.items) tuple
  within = all_weaker (λ x. x ≤ m) (λ x. x < length s.order.items) (λ x h. omega (arith, h, row)) tuple of.low

  count : length (map (λ x. slice_index s.order.items x) tuple) ≡ slice_index (arities p) f
  count = length-map tuple (λ x. slice_index s.order.items x) ∙ of.arity

  taken : take (slice_index (arities p) f) (four_places (arities p) f (map (λ x. slice_index s.order.items x) tuple)) ≡ map (λ x. slice_index s.order.items x) tuple
  taken = take_at (map (λ x. slice_index s.order.items x) tuple) (replicate (4 - slice_index (arities p) f) 0) (slice_index (arities p) f) count

  all_reached : AllByRecursion (IsReached s) (map (λ x. slice_index s.order.items x) tuple)
  all_reached = all_map (IsReached s) (λ x. slice_index s.order.items x) tuple (all_weaker (λ x. x < length s.order.items) (λ x. IsReached s (slice_index s.order.items x)) (λ x h. member_at s.order.items x h) tuple within)

  reached_low : (q : ℕ) → IsReached s q → q < length vs
  reached_low q r = let b = marked_below s.reached.items q ((is.marks q).1 r) in let n = is.marks_count in omega (arith, b, n)

  height_here : suc (height_number s m) ≡ suc (greatest (map (λ a. slice_index s.heights.items a) (map (λ x. slice_index s.order.items x) tuple)))
  height_here = ap suc (sym (greatest_image (λ a. slice_index s.heights.items a) (map (λ x. slice_index s.order.items x) tuple) (slice_index s.order.items m)
      (Contains-map (λ x. slice_index s.order.items x) m tuple of.here)
      (all_map (λ q. height_in s q ≤ height_number s m) (λ x. slice_index s.order.items x) tuple (all_weaker (λ x. x ≤ m) (λ x. height_number s x ≤ height_number s m) (λ x h. is.rising x m h row) tuple of.low))))

  pub may_tuple : MayVisit p gens vs s (suc (height_number s m)) (application (arities p) s f tuple)
  may_tuple = record {
    valid = record {
      operation = of.operation;
      count = ap (length {A = ℕ}) taken ∙ count;
      earlier = subst (AllByRecursion (λ a. a < length vs)) (sym taken) (all_weaker (IsReached s) (λ a. a < length vs) reached_low (map (λ x. slice_index s.order.items x) tuple) all_reached);
      unused = drop_at (map (λ x. slice_index s.order.items x) tuple) (replicate (4 - slice_index (arities p) f) 0) (slice_index (arities p) f) count;
    };
    arguments = subst (AllByRecursion (IsReached s)) (sym taken) all_reached;
    height = height_here ∙ ap (λ (xs : List ℕ). suc (greatest (map (λ a. slice_index s.heights.items a) xs))) (sym taken);
  }

  pub tuple_reached : (new : Search) (h : ℕ) → HasReachedBy p gens vs s new h (application (arities p) s f tuple) → IsTupleVisited p gens vs new f tuple
  tuple_reached new h k = record {
    within = all_weaker (λ x. x < length s.order.items) (λ x. x < length new.order.items) (λ x low. let n = later_length (arities p) s new k.later in omega (arith, low, n)) tuple within;
    visited = subst (λ (xs : List ℕ). IsVisited p gens vs new (Op f (four_places (arities p) f xs))) (sym (numbers_kept (arities p) s new k.later tuple within)) k.visited;
  }

  -- the arguments that the code names
  pub named_by : (n : ℕ) (places : List ℕ) → n ≡ slice_index (arities p) f → places ≡ four_places (arities p) f tuple
      → map (λ x. slice_index s.order.items x) (take n places) ++ drop n places
      ≡ four_places (arities p) f (map (λ x. slice_index s.order.items x) tuple)
  named_by n places en ep =
      (λ i. map (λ x. slice_index s.order.items x) (take (en i) (ep i)) ++ drop (en i) (ep i))
      ∙
      (λ i.
      map (λ x. slice_index s.order.items x)
      (take_at tuple (replicate (4 - slice_index (arities p) f) 0) (slice_index (arities p) f) of.arity i)
      ++ drop_at tuple (replicate (4 - slice_index (arities p) f) 0) (slice_index (arities p) f) of.arity i)

-- ---- how far a slice has been walked

pub record HasWalked (p : Product) (gens vs : List Vector) (s : Search) (k f : ℕ) (left : List (List ℕ)) : Type 0 where
  pub done : List (List ℕ)
  pub rest : List (List ℕ)
  pub whole : slice_tuples (arities p) k ≡ done ++ rest
  pub left_is : left ≡ map (four_places (arities p) f) rest
  pub visited : AllByRecursion (IsTupleVisited p gens vs s (slice_operation (arities p) k)) done

pub walk_start : (p : Product) (gens vs : List Vector) (s : Search) (k f : ℕ) (left : List (List ℕ)) → left ≡ map (four_places (arities p) f) (slice_tuples (arities p) k) → HasWalked p gens vs s k f left
walk_start p gens vs s k f left e = record { done = []; rest = slice_tuples (arities p) k; whole = refl; left_is = e; visited = tt }

-- the next tuple
pub record IsNextTuple (p : Product) (gens vs : List Vector) (s : Search) (k f : ℕ) (args : List ℕ) (left : List (List ℕ)) : Type 0 where
  pub done : List (List ℕ)
  pub tuple : List ℕ
  pub rest : List (List ℕ)
  pub whole : slice_tuples (arities p) k ≡ done ++ tuple ∷ rest
  pub args_are : args ≡ four_places (arities p) f tuple
  pub left_is : left ≡ map (four_places (arities p) f) rest
  pub visited : AllByRecursion (IsTupleVisited p gens vs s (slice_operation (arities p) k)) done

pub walk_next : (p : Product) (gens vs : List Vector) (s : Search) (k f : ℕ) (args : List ℕ) (left : List (List ℕ)) → HasWalked p gens vs s k f (args ∷ left) → IsNextTuple p gens vs s k f args left
walk_next p gens vs s k f args left w = split w.rest w.whole w.left_is
  where
    split : (rest : List (List ℕ)) → slice_tuples (arities p) k ≡ w.done ++ rest → args ∷ left ≡ map (four_places (arities p) f) rest → IsNextTuple p gens vs s k f args left
    split [] whole e = cc
    split (tuple ∷ rest) whole e = record { done = w.done; tuple = tuple; rest = rest; whole = whole; args_are = cc; left_is = cc; visited = w.visited }

pub walk_more : (p : Product) (gens vs : List Vector) (s new : Search) (k f : ℕ) (args : List ℕ) (left : List (List ℕ))
    → ReachesMore (arities p) s new → (n : IsNextTuple p gens vs s k f args left)
    → IsTupleVisited p gens vs new (slice_operation (arities p) k) n.tuple → HasWalked p gens vs new k f left
walk_more p gens vs s new k f args left l n here = record {
  done = n.done ++ n.tuple ∷ [];
  rest = n.rest;
  whole = n.whole ∙ sym (append_assoc n.done (n.tuple ∷ []) n.rest);
  left_is = n.left_is;
  visited = all_append (IsTupleVisited p gens vs new (slice_operation (arities p) k)) n.done (n.tuple ∷ [])
      (all_weaker (IsTupleVisited p gens vs s (slice_operation (arities p) k)) (IsTupleVisited p gens vs new (slice_operation (arities p) k)) (tuple_later p gens vs s new l (slice_operation (arities p) k)) n.done n.visited)
      (here, tt);
}

pub walk_end : (p : Product) (gens vs : List Vector) (s : Search) (k f : ℕ) (left : List (List ℕ)) → left ≡ [] → HasWalked p gens vs s k f left → IsSliceVisited p gens vs s k
walk_end p gens vs s k f left none w = finish w.rest w.whole (sym w.left_is ∙ none)
  where
    finish : (rest : List (List ℕ)) → slice_tuples (arities p) k ≡ w.done ++ rest → map (four_places (arities p) f) rest ≡ [] → IsSliceVisited p gens vs s k
    finish [] whole e = subst (AllByRecursion (IsTupleVisited p gens vs s (slice_operation (arities p) k))) (sym (whole ∙ append-nil w.done)) w.visited
    finish (x ∷ xs) whole e = cc

pub next_in : (p : Product) (gens vs : List Vector) (s : Search) (k f : ℕ) (args : List ℕ) (left : List (List ℕ)) → (n : IsNextTuple p gens vs s k f args left) → Contains (slice_tuples (arities p) k) n.tuple
next_in p gens vs s k f args left n = subst (λ (ts : List (List ℕ)). Contains ts n.tuple) (sym n.whole) (in_middle n.done n.tuple n.rest)
  where
    in_middle : (xs : List (List ℕ)) (x : List ℕ) (ys : List (List ℕ)) → Contains (xs ++ x ∷ ys) x
    in_middle [] x ys = Contains-head x ys
    in_middle (y ∷ xs) x ys = Contains-tail y x (xs ++ x ∷ ys) (in_middle xs x ys)

-- ---- the top of a search

-- heights of rows that were reached earlier stay
pub height_kept : (ks : List ℕ) (s new : Search) → ReachesMore ks s new → (m : ℕ) → m < length s.order.items → height_number new m ≡ height_number s m
height_kept ks s new l m low = ap (height_in new) (ap (λ (o : List ℕ). get_or o m 0) l.order ∙ get_or_append_left s.order.items l.rest 0 m low) ∙ l.heights (slice_index s.order.items m) (member_at s.order.items m low)

pub row_kept : (ks : List ℕ) (s new : Search) → ReachesMore ks s new → (m : ℕ) → m < length s.order.items → m < length new.order.items
row_kept ks s new l m low = let n = later_length ks s new l in omega (arith, n, low)

-- the row that was reached as number m allows the next height
pub top_of : (p : Product) (gens vs : List Vector) (s : Search) (m : ℕ) → IsSearch p gens vs s → m < length s.order.items → IsNearTop s m → IsTop s (suc (height_number s m))
top_of p gens vs s m is low near = record { high = near; low = let r = is.low m low in omega (arith, r, low) }

-- and after it the next one does
pub near_next : (p : Product) (gens vs : List Vector) (s new : Search) (m i : ℕ) → IsSearch p gens vs new → ReachesMore (arities p) s new
    → m < length s.order.items → IsTop new (suc (height_number s m)) → m ≤ i → i < length new.order.items → IsNearTop new i
near_next p gens vs s new m i is l low top le within = λ q r.
    let t = top.high q r in
    let e = height_kept (arities p) s new l m low in
    let up = is.rising m i le within in
    omega (arith, t, e, up)

-- as many rows as there are, at most, are reached
pub order_few : (p : Product) (gens vs : List Vector) (s : Search) → IsSearch p gens vs s → length s.order.items ≤ length vs
order_few p gens vs s is = let o = is.once in let b = total_below s.reached.items in let n = is.marks_count in omega (arith, o, b, n)

-- ---- one slice, as the code walks it

module _ (t : Table) (m k : ℕ) (table : IsRowTable t) (after : bound t.shape m ≤ k) (below : k < bound t.shape (m + 1)) where
  slice_here : IsSliceOf t.shape m k
  slice_here = slice_between t.shape m k table.limits after below

  pub operation_low : (op : ℕ) → op ≡ slice_operation t.shape k → op < length t.shape
  operation_low op e = subst (λ f. f < length t.shape) (sym e) (place_from t.shape (slice_unit t.shape k % sum t.shape) (mod-lt (slice_unit t.shape k) slice_here.some)).operation

  pub fits_row : (s : Search) → IsSearchOf t s → m < length s.order.items → (m + 1 ≤ BUDGET) × Fits t.shape 0 (m + 1)
  fits_row s is row =
      let n = order_few t.operations t.gens.now.items t.rows.items s is in
      let few = table.few in
      (omega (arith, n, few, row), (bound_laws t.shape table.limits).fits 0 (length t.rows.items) (m + 1) (omega (arith, n, row)) table.fits)

  pub walk_begins : (s : Search) (op : ℕ) (left : List (List ℕ)) → op ≡ slice_operation t.shape k
      → left ≡ map (four_places t.shape (slice_operation t.shape k)) (slice_tuples t.shape k)
      → HasWalked t.operations t.gens.now.items t.rows.items s k op left
  walk_begins s op left e is = walk_start t.operations t.gens.now.items t.rows.items s k op left (is ∙ (λ i. map (four_places (table.shape i) (sym e i)) (slice_tuples (table.shape i) k)))

  module _ (s0 s : Search) (h op : ℕ) (goes : GoesOnTo t s0 s h) (row : m < length s0.order.items) (height : h ≡ suc (height_number s0 m)) (op_is : op ≡ slice_operation t.shape k) (args : List ℕ) (left : List (List ℕ))
      (walked : HasWalked t.operations t.gens.now.items t.rows.items s k op (args ∷ left)) where
    same_op : op ≡ slice_operation (arities t.operations) k
    same_op = op_is ∙ ap (λ ks. slice_operation ks k) table.shape

    pub tuple_next : IsNextTuple t.operations t.gens.now.items t.rows.items s k op args left
    tuple_next = walk_next t.operations t.gens.now.items t.rows.items s k op args left walked

    tuple_of : IsTupleOf (arities t.operations) m (slice_operation (arities t.operations) k) tuple_next.tuple
    tuple_of = tuple_of_slice (arities t.operations) m k tuple_next.tuple (subst (λ ks. IsSliceOf ks m k) table.shape slice_here) (next_in t.operations t.gens.now.items t.rows.items s k op args left tuple_next)

    row_now : m < length s.order.items
    row_now = row_kept (arities t.operations) s0 s goes.later m row

    height_now : h ≡ suc (height_number s m)
    height_now = height ∙ ap suc (sym (height_kept (arities t.operations) s0 s goes.later m row))

    args_now : args ≡ four_places (arities t.operations) (slice_operation (arities t.operations) k) tuple_next.tuple
    args_now = tuple_next.args_are ∙ ap (λ f. four_places (arities t.operations) f tuple_next.tuple) same_op

    arity_now : (n : ℕ) → n ≡ slice_index t.shape op → n ≡ slice_index (arities t.operations) (slice_operation (arities t.operations) k)
    arity_now n e = e ∙ (λ i. slice_index (table.shape i) (same_op i))

    pub names_low : (n : ℕ) (order : List ℕ) → n ≡ slice_index t.shape op → order ≡ s.order.items → AllByRecursion (λ a. a < length order) (take n args)
    names_low n order e o =
        let front : take n args ≡ tuple_next.tuple = (λ i. take (arity_now n e i) (args_now i)) ∙ take_at tuple_next.tuple (replicate (4 - slice_index (arities t.operations) (slice_operation (arities t.operations) k)) 0) _ tuple_of.arity in
        subst (λ (x : List ℕ × List ℕ). AllByRecursion (λ a. a < length x.0) x.1) (λ i. (sym o i, sym front i))
        (all_weaker (λ x. x ≤ m) (λ x. x < length s.order.items) (λ x l. let r = row_now in omega (arith, l, r)) tuple_next.tuple tuple_of.low)

    moved_is : (n : ℕ) (order moved : List ℕ) → n ≡ slice_index t.shape op → order ≡ s.order.items → moved ≡ map (λ a. slice_index order a) (take n args) ++ drop n args
        → Op op moved ≡ application (arities t.operations) s (slice_operation (arities t.operations) k) tuple_next.tuple
    moved_is n order moved e o is =
        let there = is ∙ (λ i. map (λ a. slice_index (o i) a) (take n args) ++ drop n args)
        ∙ named_by t.operations t.gens.now.items t.rows.items s goes.search m (slice_operation (arities t.operations) k) tuple_next.tuple tuple_of row_now n args (arity_now n e) args_now in
        λ i. Op (same_op i) (there i)

    pub moved_may : (n : ℕ) (order moved : List ℕ) → n ≡ slice_index t.shape op → order ≡ s.order.items → moved ≡ map (λ a. slice_index order a) (take n args) ++ drop n args → MayVisitIn t s h (Op op moved)
    moved_may n order moved e o is =
        subst (λ (x : ℕ × Origin). MayVisitIn t s x.0 x.1) (λ i. (sym height_now i, sym (moved_is n order moved e o is) i))
        (may_tuple t.operations t.gens.now.items t.rows.items s goes.search m (slice_operation (arities t.operations) k) tuple_next.tuple tuple_of row_now)

    pub moved_more : (n : ℕ) (order moved : List ℕ) (new : Search) → n ≡ slice_index t.shape op → order ≡ s.order.items → moved ≡ map (λ a. slice_index order a) (take n args) ++ drop n args
        → HasReachedIn t s new h (Op op moved) → HasWalked t.operations t.gens.now.items t.rows.items new k op left
    moved_more n order moved new e o is reached =
        walk_more t.operations t.gens.now.items t.rows.items s new k op args left reached.later tuple_next
        (tuple_reached t.operations t.gens.now.items t.rows.items s goes.search m (slice_operation (arities t.operations) k) tuple_next.tuple tuple_of row_now new h
        (subst (HasReachedIn t s new h) (moved_is n order moved e o is) reached))
