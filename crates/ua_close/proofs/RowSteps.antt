-- Each row of a listing has steps: the rows that it needs are marked by descending rank, and taken by ascending rank.
use Rattle.std.proofs.Common.{◌≡◌, ◌≢◌, ◌⊎◌, ◌↔◌, inl, inr, ⊎_elim, ℕ, zero, suc, ◌+◌, ◌-◌, ◌<◌, ◌≤◌, Bool, true, false, List, [], ◌∷◌, ◌++◌, length, replicate, set, Some, refl, sym, ap, ◌∙◌, subst, arith}
use Rattle.std.specs.Prelude.{Contains, slice_get, slice_index, slice_index_or}
use Rattle.std.specs.List.{AllByRecursion}
use Rattle.std.proofs.lemmas.Bool.{cases_lt}
use Rattle.std.proofs.lemmas.List.{length-map, length-set, length-replicate, get_or-set_same, get_or-set_other, get_or_default}
use Rattle.ua_table.specs.Algebras.{Vector, Product, arities}
use Rattle.ua_table.specs.Counting.{EachOnceBelow}
use Rattle.ua_table.specs.Listings.{Row, vectors_of, ranks_of, IsListing}
use Rattle.ua_table.proofs.Lists.{Contains-head, Contains-tail, Contains-cases, Contains-none, all_at, all_weaker}
use Rattle.ua_table.proofs.Members.{member_at}
use Rattle.ua_table.proofs.NumbersOnce.{once-some}
use Rattle.ua_term.specs.Steps.{StepList}
use Rattle.ua_listing.specs.inner.Searches.{IsMarked}
use Rattle.ua_listing.proofs.MarkLaws.{marked_set}
use Rattle.ua_close.specs.Memberships.{AreStepsTo}
use Rattle.ua_close.specs.Needed.{rank_at, arguments_at, AreStepsFor}
use Rattle.ua_close.specs.inner.Needed.{AreMarks, AreMarked, AreEarlier}
use Rattle.ua_close.proofs.NeedLaws.{HasMarked, marks_start, marks_skip, marks_more, marks_done, HasTaken, taken_start, taken_skip, taken_more, taken_done, are_needed, ascending_differ}
use Rattle.ua_close.proofs.StepsForLaws.{rows_earlier, are_steps, last_value, steps_at}

-- ---- marks of some numbers more

record AreMarkedAlso (marks : List Bool) (args : List ℕ) : Type 0 where
  new : List Bool
  count : length new ≡ length marks
  marked : (q : ℕ) → IsMarked new q ↔ (IsMarked marks q ⊎ Contains args q)

marked_also : (marks : List Bool) (args : List ℕ) → AllByRecursion (λ a. a < length marks) args → AreMarkedAlso marks args
marked_also marks [] h = record { new = marks; count = refl; marked = λ q. (λ m. inl m, λ s. ⊎_elim (λ m. m) (λ c. absurd (Contains-none q c)) s) }
marked_also marks (a ∷ args) h =
    let rest = marked_also marks args h.1 in
    let low : a < length rest.new = let l = h.0 in let c = rest.count in omega (arith, l, c) in
    record {
      new = set rest.new a true;
      count = length-set rest.new a true ∙ rest.count;
      marked = λ q.
          let one = marked_set rest.new a q low in (
            λ m. ⊎_elim
                (λ old. ⊎_elim (λ o. inl o) (λ c. inr (Contains-tail a q args c)) ((rest.marked q).0 old))
                (λ e. inr (subst (Contains (a ∷ args)) e (Contains-head a args)))
                (one.0 m),
            λ s. ⊎_elim
                (λ o. one.1 (inl ((rest.marked q).1 (inl o))))
                (λ c. ⊎_elim (λ e. one.1 (inr e)) (λ r. one.1 (inl ((rest.marked q).1 (inr r)))) (Contains-cases a q args c))
                s,
          );
    }

marked_or : (marks : List Bool) (q : ℕ) → IsMarked marks q ⊎ (IsMarked marks q → ⊥)
marked_or marks q = by (slice_index_or marks q false) refl
  where
    by : (b : Bool) → slice_index_or marks q false ≡ b → IsMarked marks q ⊎ (IsMarked marks q → ⊥)
    by true e = inl e
    by false e = inr (λ m. let bad : true ≡ false = sym m ∙ e in cc)

-- ---- the numbers at which different numbers below a bound stand

module _ (bound : ℕ) (places : List ℕ) (below : AllByRecursion (λ q. q < bound) places) (differ : (j k : ℕ) → j < k → k < length places → slice_index places j ≢ slice_index places k) where
  -- those of the first k
  record AreNumbered (k : ℕ) : Type 0 where
    numbers : List ℕ
    count : length numbers ≡ bound
    each : (j : ℕ) → j < k → slice_index numbers (slice_index places j) ≡ j

  numbered : (k : ℕ) → k ≤ length places → AreNumbered k
  numbered zero h = record { numbers = replicate bound 0; count = length-replicate bound 0; each = λ j low. absurd (omega (arith, low)) }
  numbered (suc k) h =
      let old = numbered k (omega (arith, h)) in
      let here = slice_index places k in
      let within : here < length old.numbers = let low = all_at (λ q. q < bound) places here below (member_at places k (omega (arith, h))) in let c = old.count in omega (arith, low, c) in
      record {
        numbers = set old.numbers here k;
        count = length-set old.numbers here k ∙ old.count;
        each = λ j low. ⊎_elim
            (λ l. get_or-set_other old.numbers here (slice_index places j) k 0 (differ j k l (omega (arith, h))) ∙ old.each j l)
            (λ ge. let at : j ≡ k = omega (arith, ge, low) in ap (λ m. slice_index (set old.numbers here k) (slice_index places m)) at ∙ get_or-set_same old.numbers here k 0 within ∙ sym at)
            (cases_lt j k);
      }

-- ---- the rows that row i needs

module _ (ks : List ℕ) (rows : List Row) (once : EachOnceBelow (length rows) (ranks_of rows)) (earlier : AreEarlier ks rows) (i : ℕ) (row : i < length rows) where
  -- the row of a rank
  record IsRowOf (k : ℕ) : Type 0 where
    place : ℕ
    within : place < length rows
    rank : rank_at rows place ≡ k

  row_of : (k : ℕ) → k < length rows → IsRowOf k
  row_of k h =
      let c = once-some (length rows) (ranks_of rows) once k h in
      record {
        place = c.0;
        within = (let l = c.1 in let n = length-map rows (λ (r : Row). r.rank) in omega (arith, l, n));
        rank = get_or_default (ranks_of rows) c.0 0 k c.1 ∙ c.2;
      }

  one_marked : (n : ℕ) (marks : List Bool) → n < length rows → HasMarked ks rows i n marks → (new : List Bool) × HasMarked ks rows i (suc n) new
  one_marked n marks more has = ⊎_elim
      (λ marked.
      let also = marked_also marks (arguments_at ks rows at.place) below in
      (also.new, subst (λ m. HasMarked ks rows i m also.new) next (marks_more ks rows i once n at.place marks has at.within at.rank more also.new marked earlier also.count also.marked)))
      (λ unmarked. (marks, subst (λ m. HasMarked ks rows i m marks) next (marks_skip ks rows i once n at.place marks has at.within at.rank more unmarked)))
      (marked_or marks at.place)
    where
      at : IsRowOf (length rows - 1 - n)
      at = row_of (length rows - 1 - n) (omega (arith, more))

      below : AllByRecursion (λ a. a < length marks) (arguments_at ks rows at.place)
      below = all_weaker (λ a. (a < length rows) × (rank_at rows a < rank_at rows at.place)) (λ a. a < length marks)
          (λ a l. let x = l.0 in let c = has.count in omega (arith, x, c)) (arguments_at ks rows at.place) (earlier at.place at.within)

      next : n + 1 ≡ suc n
      next = omega arith

  grown_marks : (n : ℕ) → n ≤ length rows → (marks : List Bool) × HasMarked ks rows i n marks
  grown_marks zero h = (set (replicate (length rows) false) i true, marks_start ks rows i once (set (replicate (length rows) false) i true) row refl)
  grown_marks (suc n) h = let before = grown_marks n (omega (arith, h)) in one_marked n before.0 (omega (arith, h)) before.1

  module _ (marks : List Bool) (are : AreMarks ks rows i marks) where
    grown_places : (n : ℕ) → n ≤ length rows → (places : List ℕ) × HasTaken rows marks n places
    grown_places zero h = ([], taken_start rows marks once are.count [] refl)
    grown_places (suc n) h =
        let before = grown_places n (omega (arith, h)) in
        let at = row_of n (omega (arith, h)) in
        let next : n + 1 ≡ suc n = omega arith in
        ⊎_elim
        (λ marked.
        let places = before.0 ++ at.place ∷ [] in
        (places, subst (λ m. HasTaken rows marks m places) next (taken_more rows marks once are.count n at.place before.0 before.1 at.within at.rank places marked refl)))
        (λ unmarked. (before.0, subst (λ m. HasTaken rows marks m before.0) next (taken_skip rows marks once are.count n at.place before.0 before.1 at.within at.rank unmarked)))
        (marked_or marks at.place)

    places_exist : (places : List ℕ) × AreMarked rows marks places
    places_exist = let g = grown_places (length rows) (omega arith) in (g.0, taken_done rows marks once are.count (length rows) g.0 (omega arith) g.1)

-- ---- the steps of row i

-- steps to the row, made of the rows that it needs
pub record HasSteps (p : Product) (gens : List Vector) (rows : List Row) (i : ℕ) : Type 0 where
  pub steps : StepList
  pub needed : AreStepsFor (arities p) rows i steps.items
  pub value : (v : Vector) → slice_get (vectors_of rows) i ≡ Some v → AreStepsTo p gens v steps

pub steps_exist : (p : Product) (gens : List Vector) (rows : List Row) → IsListing p gens rows → (i : ℕ) → i < length rows → HasSteps p gens rows i
steps_exist p gens rows listing i row =
    let ks = arities p in
    let earlier = rows_earlier p gens rows listing in
    let marks = grown_marks ks rows listing.ranks earlier i row (length rows) (omega arith) in
    let are = marks_done ks rows i listing.ranks (length rows) marks.0 (omega arith) marks.1 in
    let places = places_exist ks rows listing.ranks earlier i row marks.0 are in
    let needed = are_needed ks rows i marks.0 places.0 are places.1 in
    let numbers = numbered (length rows) places.0 needed.within (ascending_differ rows marks.0 places.0 places.1) (length places.0) (omega arith) in
    let steps = steps_at p gens rows listing i places.0 numbers.numbers needed numbers.each in
    record {
      steps = record { arities = ks; gens = length gens; items = steps };
      needed = record { places = places.0; are_needed = needed; numbers = numbers.numbers; numbered = numbers.each; steps_are = refl {a = steps} };
      value = λ v e. record {
        arities_are = refl;
        generators = refl;
        steps = are_steps p gens rows listing i places.0 numbers.numbers needed numbers.each;
        value = last_value p gens rows listing i places.0 numbers.numbers needed numbers.each v e;
      };
    }
