-- The rows of a listing as they are reached: what a row that is reached leaves true.
use Rattle.std.proofs.Common.{◌≡◌, ◌≢◌, ◌⊎◌, ◌↔◌, inl, inr, ⊎_elim, ℕ, zero, suc, ◌+◌, ◌<◌, ◌≤◌, Bool, true, false, List, [], ◌∷◌, ◌++◌, length, length-append, append-nil}
use Rattle.std.proofs.Common.{append_assoc, map, take, get_or, set, refl, sym, ap, ◌∙◌, subst, arith, Ordering}
use Rattle.std.specs.Prelude.{Contains, slice_get, slice_index, Some, IsTrue, nat_eq}
use Rattle.std.specs.List.{AllByRecursion, IsDistinct}
use Rattle.std.specs.Cmp.{IsTotalOrder, nat_cmp_is}
use Rattle.std.specs.Cmp.Lexicographic.{slice_cmp, nat_list_cmp_total, pointwise, bytes_decides}
use Rattle.std.specs.Ordering.{nat_cmp, ordering_then, ordering_reverse, is_lt}
use Rattle.std.specs.declared.cmp.Ordering.TheVariants.{Less, Equal, Greater}
use Rattle.std.proofs.lemmas.Bool.{cases_lt}
use Rattle.std.proofs.lemmas.List.{length-set, get_or-set_same, get_or-set_other, get_or_append_left}
use Rattle.std.proofs.lemmas.Map.Keys.{apart_from_distinct}
use Rattle.std.proofs.lemmas.Option.{slice_get_within, get_or_from_slice_get}
use Rattle.std.proofs.lemmas.List.Elements.{Contains-append_left, Contains-append_cases, Contains-push}
use Rattle.std.proofs.Math.Seq.{get_or-append_seam}
use Rattle.ua_table.specs.declared.origins.Origin.{Origin}
use Rattle.ua_table.specs.declared.origins.Origin.TheVariants.{Gen, Op}
use Rattle.ua_table.specs.Algebras.{Vector, Product, arities}
use Rattle.ua_table.specs.Counting.{total, one_if}
use Rattle.ua_table.specs.Numbering.{greatest}
use Rattle.ua_table.specs.Orders.{height_of, spelled}
use Rattle.ua_table.specs.Origins.{IsOrigin, arguments_of, origin_value}
use Rattle.ua_table.proofs.Lists.{all_weaker}
use Rattle.ua_listing.specs.inner.Searches.{IsMarked, height_in, origin_in, IsReached, IsBefore, IsNotAfter, IsFound, IsSearch, IsNear, IsVisited, ReachesMore, IsTop, MayVisit, HasReachedBy}
use Rattle.ua_listing.specs.declared.searches.Search.{Search}
use Rattle.ua_listing.proofs.MarkLaws.{marked_set}
use Rattle.ua_table.proofs.Members.{member_at}

-- ---- the order of origins

nat_cmp_same : (n : ℕ) → nat_cmp n n ≡ Equal
nat_cmp_same n = sym (nat_cmp_is n n Equal refl)

less_true : (o : Ordering) → is_lt o ≡ true → o ≡ Less
less_true Less e = refl
less_true Equal e = cc
less_true Greater e = cc

-- one operation at two tuples
pub same_operation : (ks : List ℕ) (f k : ℕ) (args others : List ℕ) (b : Bool) → k ≡ slice_index ks f → b ≡ is_lt (slice_cmp nat_cmp (take k args) (take k others)) → IsTrue b ↔ IsBefore ks (Op f args) (Op f others)
same_operation ks f k args others b e is =
    let whole : slice_cmp nat_cmp (spelled ks (Op f args)) (spelled ks (Op f others)) ≡ slice_cmp nat_cmp (take k args) (take k others)
    = ap (λ o. ordering_then o (slice_cmp nat_cmp (take (slice_index ks f) args) (take (slice_index ks f) others))) (nat_cmp_same f) ∙ (λ i. slice_cmp nat_cmp (take (sym e i) args) (take (sym e i) others)) in
    (λ t. whole ∙ less_true _ (sym is ∙ t), λ l. is ∙ ap is_lt (sym whole ∙ l))

-- what is not after
module _ {K : Type 0} (R : K → K → Ordering) (o : IsTotalOrder R) where
  turned : (x y : K) → R x y ≡ Greater → R y x ≡ Less
  turned x y e = o.antisymm y x ∙ ap ordering_reverse e

  le_refl : (x : K) → R x x ≢ Greater
  le_refl x e = let l = turned x x e in let bad : Greater ≡ Less = sym e ∙ l in cc

  le_trans : (x y z : K) → R x y ≢ Greater → R y z ≢ Greater → R x z ≢ Greater
  le_trans x y z h k e = cases (R x y) refl
    where
      cases : (r : Ordering) → R x y ≡ r → ⊥
      cases Less l = k (o.antisymm y z ∙ ap ordering_reverse (o.trans z x y (turned x z e) l))
      cases Equal l = k (sym (o.congr x y z l) ∙ e)
      cases Greater l = h l

pub not_after_itself : (ks : List ℕ) (o : Origin) → IsNotAfter ks o o
not_after_itself ks o = le_refl (slice_cmp nat_cmp) nat_list_cmp_total (spelled ks o)

pub not_after_chain : (ks : List ℕ) (o p q : Origin) → IsNotAfter ks o p → IsNotAfter ks p q → IsNotAfter ks o q
not_after_chain ks o p q h k = le_trans (slice_cmp nat_cmp) nat_list_cmp_total (spelled ks o) (spelled ks p) (spelled ks q) h k

less_not_greater : (o : Ordering) → o ≡ Less → o ≢ Greater
less_not_greater o e f = let bad : Less ≡ Greater = sym e ∙ f in cc

before_not_after : (ks : List ℕ) (o other : Origin) → IsBefore ks o other → IsNotAfter ks o other
before_not_after ks (Gen i) (Gen j) h = less_not_greater _ (ap (λ r. ordering_then r Equal) (sym (nat_cmp_is i j Less h)))
before_not_after ks (Gen i) (Op g others) h = absurd h
before_not_after ks (Op f args) (Gen j) h = absurd h
before_not_after ks (Op f args) (Op g others) h = less_not_greater _ h

-- of two origins at one height, the one that is not before the other is not before it
not_before : (ks heights : List ℕ) (o other : Origin) → height_of ks heights o ≡ height_of ks heights other → (IsBefore ks o other → ⊥) → IsNotAfter ks other o
not_before ks heights (Gen i) (Gen j) e h = λ g. ⊎_elim
    (λ low. h low)
    (λ high. less_or_equal (nat_cmp j i) refl high g)
    (cases_lt i j)
  where
    less_or_equal : (r : Ordering) → nat_cmp j i ≡ r → j ≤ i → ordering_then (nat_cmp j i) Equal ≡ Greater → ⊥
    less_or_equal r is le g = ⊎_elim
        (λ l. let bad : Less ≡ Greater = ap (λ o. ordering_then o Equal) (nat_cmp_is j i Less l) ∙ g in cc)
        (λ ge. let same : j ≡ i = omega (arith, ge, le) in let bad : Equal ≡ Greater = ap (λ o. ordering_then o Equal) (nat_cmp_is j i Equal same) ∙ g in cc)
        (cases_lt j i)
not_before ks heights (Gen i) (Op g others) e h = absurd (omega (arith, e))
not_before ks heights (Op f args) (Gen j) e h = absurd (omega (arith, e))
not_before ks heights (Op f args) (Op g others) e h = λ greater. h (nat_list_cmp_total.antisymm (spelled ks (Op f args)) (spelled ks (Op g others)) ∙ ap ordering_reverse greater)

equal_or_not : (q r : ℕ) → (q ≡ r) ⊎ (q ≢ r)
equal_or_not q r = ⊎_elim (λ l. inr (λ e. omega (arith, l, e))) (λ h. ⊎_elim (λ l. inr (λ e. omega (arith, l, e))) (λ k. inl (omega (arith, h, k))) (cases_lt r q)) (cases_lt q r)

-- ---- rows that differ

pub one_row : (vs : List Vector) → IsDistinct (pointwise nat_eq) vs → (q r : ℕ) (v : Vector) → slice_get vs q ≡ Some v → slice_get vs r ≡ Some v → q ≡ r
one_row vs different q r v e f = ⊎_elim
    (λ low. absurd (apart q r low (slice_get_within vs r v f) (get_or_from_slice_get vs q v [] e ∙ sym (get_or_from_slice_get vs r v [] f))))
    (λ high. ⊎_elim
    (λ low. absurd (apart r q low (slice_get_within vs q v e) (get_or_from_slice_get vs r v [] f ∙ sym (get_or_from_slice_get vs q v [] e))))
    (λ le. omega (arith, high, le))
    (cases_lt r q))
    (cases_lt q r)
  where
    apart : (i j : ℕ) → i < j → j < length vs → get_or vs i [] ≢ get_or vs j []
    apart i j low high e =
        let no = apart_from_distinct (pointwise nat_eq) vs i j [] different low high in
        let yes = (bytes_decides (get_or vs i []) (get_or vs j [])).1 e in
        let both : true ≡ false = sym yes ∙ no in
        cc

-- ---- a search that went on

pub later_reached : (ks : List ℕ) (s new : Search) → ReachesMore ks s new → (q : ℕ) → IsReached s q → IsReached new q
later_reached ks s new l q r = subst (λ (xs : List ℕ). Contains xs q) (sym l.order) (Contains-append_left s.order.items l.rest q r)

heights_kept : (ks : List ℕ) (s new : Search) → ReachesMore ks s new → (xs : List ℕ) → AllByRecursion (IsReached s) xs → map (λ a. slice_index new.heights.items a) xs ≡ map (λ a. slice_index s.heights.items a) xs
heights_kept ks s new l [] h = refl
heights_kept ks s new l (x ∷ xs) h = λ i. l.heights x h.0 i ∷ heights_kept ks s new l xs h.1 i

later_height : (ks : List ℕ) (s new : Search) → ReachesMore ks s new → (o : Origin) → AllByRecursion (IsReached s) (arguments_of ks o) → height_of ks new.heights.items o ≡ height_of ks s.heights.items o
later_height ks s new l (Gen i) h = refl
later_height ks s new l (Op f args) h = ap (λ xs. suc (greatest xs)) (heights_kept ks s new l (arguments_of ks (Op f args)) h)

pub later_itself : (ks : List ℕ) (s : Search) → ReachesMore ks s s
later_itself ks s = record {
  rest = [];
  order = sym (append-nil s.order.items);
  heights = λ q r. refl;
  origins = λ q r. not_after_itself ks (origin_in s q);
}

pub later_chain : (ks : List ℕ) (s t u : Search) → ReachesMore ks s t → ReachesMore ks t u → ReachesMore ks s u
later_chain ks s t u l m = record {
  rest = l.rest ++ m.rest;
  order = m.order ∙ ap (λ (xs : List ℕ). xs ++ m.rest) l.order ∙ append_assoc s.order.items l.rest m.rest;
  heights = λ q r. m.heights q (later_reached ks s t l q r) ∙ l.heights q r;
  origins = λ q r. not_after_chain ks (origin_in u q) (origin_in t q) (origin_in s q) (m.origins q (later_reached ks s t l q r)) (l.origins q r);
}

module _ (p : Product) (gens vs : List Vector) (s new : Search) (l : ReachesMore (arities p) s new) where
  pub later_visited : (o : Origin) → IsVisited p gens vs s o → IsVisited p gens vs new o
  later_visited o h = record {
    arguments = all_weaker (IsReached s) (IsReached new) (later_reached (arities p) s new l) (arguments_of (arities p) o) h.arguments;
    value = λ q e.
        let n = h.value q e in
        let same = later_height (arities p) s new l o h.arguments in
        let mine = l.heights q n.reached in
        record {
          reached = later_reached (arities p) s new l q n.reached;
          near = ⊎_elim
              (λ low. inl (omega (arith, low, same, mine)))
              (λ at. inr (mine ∙ at.0 ∙ sym same, not_after_chain (arities p) (origin_in new q) (origin_in s q) o (l.origins q n.reached) at.1))
              n.near;
        };
  }

  -- an origin of a row that is reached
  found_by : (q : ℕ) (o : Origin) → origin_in new q ≡ o → IsOrigin (arities p) (length gens) (length vs) o → slice_get vs q ≡ Some (origin_value p gens vs o)
      → AllByRecursion (IsReached s) (arguments_of (arities p) o) → height_in new q ≡ height_of (arities p) s.heights.items o → IsFound p gens vs new q
  found_by q o same valid value arguments height = record {
    valid = subst (IsOrigin (arities p) (length gens) (length vs)) (sym same) valid;
    value = subst (λ x. slice_get vs q ≡ Some (origin_value p gens vs x)) (sym same) value;
    reaches = height ∙ sym (later_height (arities p) s new l o arguments) ∙ ap (height_of (arities p) new.heights.items) (sym same);
    arguments = subst (λ x. AllByRecursion (IsReached new) (arguments_of (arities p) x)) (sym same) (all_weaker (IsReached s) (IsReached new) (later_reached (arities p) s new l) (arguments_of (arities p) o) arguments);
  }

  found_kept : (q : ℕ) → IsReached s q → origin_in new q ≡ origin_in s q → IsFound p gens vs s q → IsFound p gens vs new q
  found_kept q r same f = found_by q (origin_in s q) same f.valid f.value f.arguments (l.heights q r ∙ f.reaches)

-- ---- how many rows are marked

total_set : (bs : List Bool) (q : ℕ) → q < length bs → (IsMarked bs q → ⊥) → total one_if (set bs q true) ≡ suc (total one_if bs)
total_set [] q h n = absurd (omega (arith, h))
total_set (true ∷ bs) zero h n = absurd (n refl)
total_set (false ∷ bs) zero h n = omega arith
total_set (b ∷ bs) (suc q) h n = let r = total_set bs q (omega (arith, h)) n in omega (arith, r)

pub total_below : (bs : List Bool) → total one_if bs ≤ length bs
total_below [] = omega arith
total_below (true ∷ bs) = let r = total_below bs in omega (arith, r)
total_below (false ∷ bs) = let r = total_below bs in omega (arith, r)

only : (x q : ℕ) → Contains (x ∷ []) q → q ≡ x
only x q c = let low = c.1 in let z : c.0 ≡ 0 = omega (arith, low) in sym (ap (λ k. get_or (x ∷ []) k q) (sym z) ∙ c.2)

module _ (p : Product) (gens vs : List Vector) (different : IsDistinct (pointwise nat_eq) vs) (s : Search) (q h : ℕ) (o : Origin)
    (is : IsSearch p gens vs s) (top : IsTop s h) (may : MayVisit p gens vs s h o) (row : slice_get vs q ≡ Some (origin_value p gens vs o)) where
  within : q < length vs
  within = slice_get_within vs q (origin_value p gens vs o) row

  -- ---- a row that was not reached

  module _ (new : Search) (unmarked : IsMarked s.reached.items q → ⊥) (order : new.order.items ≡ s.order.items ++ q ∷ []) (reached : new.reached.items ≡ set s.reached.items q true)
      (heights : new.heights.items ≡ set s.heights.items q h) (origins : new.origins.items ≡ set s.origins.items q o) where
    unreached : IsReached s q → ⊥
    unreached r = unmarked ((is.marks q).1 r)

    other : (r : ℕ) → IsReached s r → q ≢ r
    other r there e = unreached (subst (IsReached s) (sym e) there)

    height_here : height_in new q ≡ h
    height_here = ap (λ (xs : List ℕ). get_or xs q 0) heights ∙ get_or-set_same s.heights.items q h 0 (let n = is.heights_count in omega (arith, within, n))

    height_there : (r : ℕ) → q ≢ r → height_in new r ≡ height_in s r
    height_there r e = ap (λ (xs : List ℕ). get_or xs r 0) heights ∙ get_or-set_other s.heights.items q r h 0 (λ f. e (sym f))

    origin_here : origin_in new q ≡ o
    origin_here = ap (λ (xs : List Origin). get_or xs q (Gen 0)) origins ∙ get_or-set_same s.origins.items q o (Gen 0) (let n = is.origins_count in omega (arith, within, n))

    origin_there : (r : ℕ) → q ≢ r → origin_in new r ≡ origin_in s r
    origin_there r e = ap (λ (xs : List Origin). get_or xs r (Gen 0)) origins ∙ get_or-set_other s.origins.items q r o (Gen 0) (λ f. e (sym f))

    entered_later : ReachesMore (arities p) s new
    entered_later = record {
      rest = q ∷ [];
      order = order;
      heights = λ r there. height_there r (other r there);
      origins = λ r there. subst (λ x. IsNotAfter (arities p) x (origin_in s r)) (sym (origin_there r (other r there))) (not_after_itself (arities p) (origin_in s r));
    }

    reached_cases : (r : ℕ) → IsReached new r → IsReached s r ⊎ (r ≡ q)
    reached_cases r c = ⊎_elim (λ old. inl old) (λ last. inr (only q r last)) (Contains-append_cases s.order.items (q ∷ []) r (subst (λ (xs : List ℕ). Contains xs r) order c))

    reached_here : IsReached new q
    reached_here = subst (λ (xs : List ℕ). Contains xs q) (sym order) (Contains-push s.order.items q)

    count : length new.order.items ≡ suc (length s.order.items)
    count = ap (length {A = ℕ}) order ∙ (let n = length-append s.order.items (q ∷ []) in omega (arith, n))

    before : (i : ℕ) → i < length s.order.items → slice_index new.order.items i ≡ slice_index s.order.items i
    before i low = ap (λ (xs : List ℕ). get_or xs i 0) order ∙ get_or_append_left s.order.items (q ∷ []) 0 i low

    last : slice_index new.order.items (length s.order.items) ≡ q
    last = ap (λ (xs : List ℕ). get_or xs (length s.order.items) 0) order ∙ get_or-append_seam s.order.items q [] 0

    height_before : (i : ℕ) → i < length s.order.items → height_in new (slice_index new.order.items i) ≡ height_in s (slice_index s.order.items i)
    height_before i low = ap (height_in new) (before i low) ∙ entered_later.heights (slice_index s.order.items i) (member_at s.order.items i low)

    height_last : height_in new (slice_index new.order.items (length s.order.items)) ≡ h
    height_last = ap (height_in new) last ∙ height_here

    new_high : (i : ℕ) → i < length new.order.items → height_in new (slice_index new.order.items i) ≤ h
    new_high i low = ⊎_elim
        (λ old. let e = height_before i old in let t = top.high (slice_index s.order.items i) (member_at s.order.items i old) in omega (arith, e, t))
        (λ high. let at : i ≡ length s.order.items = (let n = count in omega (arith, high, low, n)) in let e = ap (λ k. height_in new (slice_index new.order.items k)) at ∙ height_last in omega (arith, e))
        (cases_lt i (length s.order.items))

    entered_search : IsSearch p gens vs new
    entered_search = record {
      marks_count = ap (length {A = Bool}) reached ∙ length-set s.reached.items q true ∙ is.marks_count;
      heights_count = ap (length {A = ℕ}) heights ∙ length-set s.heights.items q h ∙ is.heights_count;
      origins_count = ap (length {A = Origin}) origins ∙ length-set s.origins.items q o ∙ is.origins_count;
      marks = λ r.
          let low : q < length s.reached.items = (let n = is.marks_count in omega (arith, within, n)) in
          let at = marked_set s.reached.items q r low in (
            λ m. ⊎_elim (λ old. later_reached (arities p) s new entered_later r ((is.marks r).0 old)) (λ e. subst (IsReached new) e reached_here) (at.0 (subst (λ (bs : List Bool). IsMarked bs r) reached m)),
            λ c. subst (λ (bs : List Bool). IsMarked bs r) (sym reached) (at.1 (⊎_elim (λ old. inl ((is.marks r).1 old)) (λ e. inr (sym e)) (reached_cases r c))),
          );
      once = count ∙ ap suc is.once ∙ sym (ap (total one_if) reached ∙ total_set s.reached.items q (let n = is.marks_count in omega (arith, within, n)) unmarked);
      rising = λ i j low high. ⊎_elim
          (λ old. let a = height_before i (omega (arith, low, old)) in let b = height_before j old in let r = is.rising i j low old in omega (arith, a, b, r))
          (λ ge.
          let at : j ≡ length s.order.items = (let n = count in omega (arith, ge, high, n)) in
          let e = ap (λ k. height_in new (slice_index new.order.items k)) at ∙ height_last in
          let t = new_high i (omega (arith, low, high)) in omega (arith, e, t))
          (cases_lt j (length s.order.items));
      low = λ i low. ⊎_elim
          (λ old. let a = height_before i old in let r = is.low i old in omega (arith, a, r))
          (λ ge. let t = new_high i low in let l = top.low in omega (arith, t, l, ge))
          (cases_lt i (length s.order.items));
      found = λ r c. ⊎_elim
          (λ old. found_kept p gens vs s new entered_later r old (origin_there r (other r old)) (is.found r old))
          (λ e. subst (IsFound p gens vs new) (sym e) (found_by p gens vs s new entered_later q o origin_here may.valid row may.arguments (height_here ∙ may.height)))
          (reached_cases r c);
    }

    pub entered : HasReachedBy p gens vs s new h o
    entered = record {
      search = entered_search;
      later = entered_later;
      top = record {
        high = λ r c. ⊎_elim
            (λ old. let e = entered_later.heights r old in let t = top.high r old in omega (arith, e, t))
            (λ e. let m = ap (height_in new) e ∙ height_here in omega (arith, m))
            (reached_cases r c);
        low = let l = top.low in let n = count in omega (arith, l, n);
      };
      visited = record {
        arguments = all_weaker (IsReached s) (IsReached new) (later_reached (arities p) s new entered_later) (arguments_of (arities p) o) may.arguments;
        value = λ r e.
            let same = one_row vs different q r (origin_value p gens vs o) row e in
            subst (IsNear (arities p) new (height_of (arities p) new.heights.items o) o) same record {
              reached = reached_here;
              near = inr (height_here ∙ may.height ∙ sym (later_height (arities p) s new entered_later o may.arguments), subst (λ x. IsNotAfter (arities p) x o) (sym origin_here) (not_after_itself (arities p) o));
            };
      };
    }

  -- ---- a row that was reached

  module _ (marked : IsMarked s.reached.items q) where
    there : IsReached s q
    there = (is.marks q).0 marked

    -- by an origin that comes after this one
    module _ (new : Search) (at : height_in s q ≡ h) (first : IsBefore (arities p) o (origin_in s q)) (order : new.order.items ≡ s.order.items) (reached : new.reached.items ≡ s.reached.items)
        (heights : new.heights.items ≡ s.heights.items) (origins : new.origins.items ≡ set s.origins.items q o) where
      improved_here : origin_in new q ≡ o
      improved_here = ap (λ (xs : List Origin). get_or xs q (Gen 0)) origins ∙ get_or-set_same s.origins.items q o (Gen 0) (let n = is.origins_count in omega (arith, within, n))

      improved_there : (r : ℕ) → q ≢ r → origin_in new r ≡ origin_in s r
      improved_there r e = ap (λ (xs : List Origin). get_or xs r (Gen 0)) origins ∙ get_or-set_other s.origins.items q r o (Gen 0) (λ f. e (sym f))

      height_same : (r : ℕ) → height_in new r ≡ height_in s r
      height_same r = ap (λ (xs : List ℕ). get_or xs r 0) heights

      improved_later : ReachesMore (arities p) s new
      improved_later = record {
        rest = [];
        order = order ∙ sym (append-nil s.order.items);
        heights = λ r c. height_same r;
        origins = λ r c. ⊎_elim
            (λ e. subst (λ k. IsNotAfter (arities p) (origin_in new k) (origin_in s k)) e (subst (λ x. IsNotAfter (arities p) x (origin_in s q)) (sym improved_here) (before_not_after (arities p) o (origin_in s q) first)))
            (λ e. subst (λ x. IsNotAfter (arities p) x (origin_in s r)) (sym (improved_there r e)) (not_after_itself (arities p) (origin_in s r)))
            (equal_or_not q r);
      }

      old : (r : ℕ) → IsReached new r → IsReached s r
      old r c = subst (λ (xs : List ℕ). Contains xs r) order c

      improved_search : IsSearch p gens vs new
      improved_search = record {
        marks_count = ap (length {A = Bool}) reached ∙ is.marks_count;
        heights_count = ap (length {A = ℕ}) heights ∙ is.heights_count;
        origins_count = ap (length {A = Origin}) origins ∙ length-set s.origins.items q o ∙ is.origins_count;
        marks = subst (λ (x : List Bool × List ℕ). (r : ℕ) → IsMarked x.0 r ↔ Contains x.1 r) (λ i. (sym reached i, sym order i)) is.marks;
        once = ap (length {A = ℕ}) order ∙ is.once ∙ sym (ap (total one_if) reached);
        rising = subst (λ (x : List ℕ × List ℕ). (i j : ℕ) → i ≤ j → j < length x.0 → slice_index x.1 (slice_index x.0 i) ≤ slice_index x.1 (slice_index x.0 j)) (λ i. (sym order i, sym heights i)) is.rising;
        low = subst (λ (x : List ℕ × List ℕ). (i : ℕ) → i < length x.0 → slice_index x.1 (slice_index x.0 i) ≤ i + 1) (λ i. (sym order i, sym heights i)) is.low;
        found = λ r c. ⊎_elim
            (λ e. subst (IsFound p gens vs new) e (found_by p gens vs s new improved_later q o improved_here may.valid row may.arguments (height_same q ∙ at ∙ may.height)))
            (λ e. found_kept p gens vs s new improved_later r (old r c) (improved_there r e) (is.found r (old r c)))
            (equal_or_not q r);
      }

      pub improved : HasReachedBy p gens vs s new h o
      improved = record {
        search = improved_search;
        later = improved_later;
        top = record {
          high = λ r c. let e = height_same r in let t = top.high r (old r c) in omega (arith, e, t);
          low = let l = top.low in let n = ap (length {A = ℕ}) order in omega (arith, l, n);
        };
        visited = record {
          arguments = all_weaker (IsReached s) (IsReached new) (later_reached (arities p) s new improved_later) (arguments_of (arities p) o) may.arguments;
          value = λ r e.
              let same = one_row vs different q r (origin_value p gens vs o) row e in
              subst (IsNear (arities p) new (height_of (arities p) new.heights.items o) o) same record {
                reached = later_reached (arities p) s new improved_later q there;
                near = inr (height_same q ∙ at ∙ may.height ∙ sym (later_height (arities p) s new improved_later o may.arguments), subst (λ x. IsNotAfter (arities p) x o) (sym improved_here) (not_after_itself (arities p) o));
              };
        };
      }

    -- at a lower height, or by an origin that is no later
    pub stays : ((height_in s q ≡ h) → IsBefore (arities p) o (origin_in s q) → ⊥) → HasReachedBy p gens vs s s h o
    stays later = record {
      search = is;
      later = later_itself (arities p) s;
      top = top;
      visited = record {
        arguments = may.arguments;
        value = λ r e.
            let same = one_row vs different q r (origin_value p gens vs o) row e in
            subst (IsNear (arities p) s (height_of (arities p) s.heights.items o) o) same record {
              reached = there;
              near = ⊎_elim
                  (λ low. inl (let m = may.height in omega (arith, low, m)))
                  (λ high.
                  let t = top.high q there in
                  let at : height_in s q ≡ h = omega (arith, t, high) in
                  inr (at ∙ may.height, not_before (arities p) s.heights.items o (origin_in s q) (sym may.height ∙ sym at ∙ (is.found q there).reaches) (later at)))
                  (cases_lt (height_in s q) h);
            };
      };
    }
