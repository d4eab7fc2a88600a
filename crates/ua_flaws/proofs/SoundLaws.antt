-- A certificate without a flaw says what it says.
use Rattle.std.proofs.Common.{◌≡◌, ℕ, zero, suc, ◌+◌, ◌-◌, ◌<◌, true, false, ◌&&◌, ◌||◌, not, Option, Some, None, List, [], ◌∷◌, length, take, refl, sym, ap, ◌∙◌, subst, arith}
use Rattle.std.specs.Prelude.{slice_get, slice_index, slice_index_or, nat_lt, ◌==◌, Contains}
use Rattle.std.specs.List.{AllByRecursion, list_all}
use Rattle.std.proofs.lemmas.Bool.Decides.{nat_tests}
use Rattle.std.proofs.lemmas.List.{length-map, take_all}
use Rattle.std.proofs.lemmas.Map.Views.{list_any-from_Contains}
use Rattle.std.specs.Cmp.Lexicographic.{nat_list_eq_equiv}
use Rattle.std.proofs.lemmas.Bool.{or_parts}
use Rattle.ua_table.specs.declared.limits.TheConstants.{WIDTH}
use Rattle.ua_table.specs.Algebras.{Vector, FiniteAlgebra, arities_of, arities, IsIncreasing, power}
use Rattle.ua_table.specs.Counting.{EachOnceBelow}
use Rattle.ua_table.specs.Terms.{IsTerm, term_value}
use Rattle.ua_table.specs.Generated.{Sg}
use Rattle.ua_table.specs.Origins.{IsOrigin, arguments_of, origin_value}
use Rattle.ua_table.specs.Listings.{Row, vectors_of, ranks_of, IsMadeFrom, IsListing}
use Rattle.ua_table.specs.Refusals.{refusal_if, first_refusal, is_outside}
use Rattle.ua_table.proofs.GeneratedLaws.{Sg-least}
use Rattle.ua_table.proofs.ListingLaws.{vector_in}
use Rattle.ua_table.proofs.FrameLaws.{arities_of_power}
use Rattle.ua_table.proofs.Lists.{all_from_places}
use Rattle.ua_term.specs.Steps.{AreSteps}
use Rattle.ua_term.proofs.StepLaws.{step_is_term}
use Rattle.ua_term.specs.Printing.{name_at}
use Rattle.ua_cert.specs.declared.certs.CertStep.{CertStep}
use Rattle.ua_flaws.specs.declared.flaws.ListName.TheVariants.{Gens, Rows, Target}
use Rattle.ua_flaws.specs.declared.flaws.Flaw.TheVariants as flaw
use Rattle.ua_flaws.specs.Firsts.{first_bad, unlike_lengths, is_same, is_among}
use Rattle.ua_flaws.specs.Steps.{is_step, origin_of, origins_of, last_term, rows_named}
use Rattle.ua_flaws.specs.Closing.{missing}
use Rattle.ua_flaws.specs.Flaws.{vectors_flaw, steps_flaw, is_made, first_or_short, origins_flaw, order_flaw, generators_flaw, results_flaw, closed_flaw, outside_lines, gives_target}
use Rattle.ua_flaws.specs.Flaws.{member_lines, member_flaw, not_member_flaw, listing_lines, listing_flaw}
use Rattle.ua_flaws.specs.Properties.{WritesMember, IsNoMember, rows_from, ListsAll}
use Rattle.ua_flaws.proofs.FirstLaws.{both, not_false, some_length, same_is, among_is, refusal_none, option_none, none_of, behind_none, each_good, like_lengths}
use Rattle.ua_flaws.proofs.ClosingLaws.{closed_from}
use Rattle.ua_flaws.proofs.OrderLaws.{rows_increase}
use Rattle.ua_flaws.proofs.RankLaws.{ranks_once}
use Rattle.ua_flaws.proofs.ShapeLaws.{wide}
use Rattle.ua_flaws.proofs.StepLaws.{step_read, steps_read}

-- ---- the rows hold all that is generated

generators_there : (gens rows : List Vector) → generators_flaw gens rows ≡ None → AllByRecursion (Contains rows) gens
generators_there gens rows none =
    all_from_places (Contains rows) gens (λ i g at. among_is rows g (each_good (λ (i : ℕ) (g : Vector). is_among rows g) 0 gens (option_none flaw.Generator (first_bad (λ (i : ℕ) (g : Vector). is_among rows g) 0 gens) none) i g at))

pub holds_all : (a : FiniteAlgebra) (width : ℕ) (gens rows : List Vector) → generators_flaw gens rows ≡ None → results_flaw a width rows ≡ None → (v : Vector) → Sg (power a width) gens v → Contains rows v
holds_all a width gens rows gens_in none v s =
    Sg-least (power a width) gens rows (generators_there gens rows gens_in) (closed_from (power a width) rows (option_none (λ (r : ℕ × List ℕ). flaw.Missing (name_at a r.0) r.1) (missing (power a width) rows) none)) v s

-- ---- a vector that is not generated

-- rows that hold all that is generated
pub closed_holds : (a : FiniteAlgebra) (width : ℕ) (gens rows : List Vector) → closed_flaw a width gens rows ≡ None → (v : Vector) → Sg (power a width) gens v → Contains rows v
closed_holds a width gens rows none =
    let l = none_of (order_flaw rows ∷ generators_flaw gens rows ∷ results_flaw a width rows ∷ []) none in
    holds_all a width gens rows l.1.0 l.1.1.0

-- and not the target
pub outside_holds : (a : FiniteAlgebra) (width : ℕ) (gens rows : List Vector) (target : Vector) → first_refusal (outside_lines a width gens rows target) ≡ None → Sg (power a width) gens target → ⊥
outside_holds a width gens rows target none s =
    let l = none_of (outside_lines a width gens rows target) none in
    let absent : is_among rows target ≡ false = refusal_none (is_among rows target) flaw.Target l.1.0 in
    let there : is_among rows target ≡ true = list_any-from_Contains nat_list_eq_equiv target rows (closed_holds a width gens rows l.0 target s) in
    cc

pub not_member_holds : (a : FiniteAlgebra) (gens rows : List Vector) (target : Vector) (width : ℕ) → not_member_flaw a gens rows target width ≡ None → IsNoMember a gens target width
not_member_holds a gens rows target width none =
    outside_holds a width gens rows target
    (behind_none
    (refusal_if (is_outside width WIDTH) flaw.Width ∷ vectors_flaw a.size width Gens gens ∷ vectors_flaw a.size width Rows rows
    ∷ vectors_flaw a.size width Target (target ∷ []) ∷ [])
    (outside_lines a width gens rows target) none)

-- ---- a vector that is generated

-- steps without a flaw are steps, and the last of them unfolds to a term
pub record AreWritten (a : FiniteAlgebra) (gens : ℕ) (steps : List CertStep) : Type 0 where
  pub steps_are : AreSteps (arities_of a) gens (origins_of a steps)
  pub is_term : IsTerm (arities_of a) gens (last_term a steps)

pub steps_written : (a : FiniteAlgebra) (gens : ℕ) (term : Option ℕ) (steps : List CertStep) → steps_flaw a gens term steps ≡ None → AreSteps (arities_of a) gens (origins_of a steps)
steps_written a gens term steps none = steps_read a gens 0 steps (option_none (flaw.Step term) (first_bad (is_step a gens) 0 steps) none)

pub written : (a : FiniteAlgebra) (gens : ℕ) (term : Option ℕ) (steps : List CertStep) → 0 < length steps → steps_flaw a gens term steps ≡ None → AreWritten a gens steps
written a gens term steps some none =
    let are = steps_written a gens term steps none in
    let count : length (origins_of a steps) ≡ length steps = length-map steps (origin_of a) in
    record { steps_are = are; is_term = step_is_term (arities_of a) gens (origins_of a steps) (length (origins_of a steps) - 1) are (omega (arith, some, count)) }

pub member_holds : (a : FiniteAlgebra) (gens : List Vector) (steps : List CertStep) (target : Vector) (width : ℕ) → member_flaw a gens steps target width ≡ None → WritesMember a gens steps target width
member_holds a gens steps target width none =
    let l = none_of (member_lines a gens steps target width) none in
    let shape = or_parts (is_outside width WIDTH) (length steps == 0) (refusal_none (is_outside width WIDTH || (length steps == 0)) flaw.Width l.0) in
    let are = written a (length gens) None steps (some_length (length steps) shape.1) l.1.1.1.0 in
    record {
      steps_are = are.steps_are;
      is_term = are.is_term;
      value = same_is (term_value (power a width) gens (last_term a steps)) target (not_false (gives_target a width gens steps target) (refusal_none (not (gives_target a width gens steps target)) flaw.Target l.1.1.1.1.0));
    }

-- ---- a closed listing

-- as many ranks and origins as rows
record AreLike (rows : List Vector) (ranks : List ℕ) (origins : List CertStep) : Type 0 where
  ranks_count : length rows ≡ length ranks
  origins_count : length rows ≡ length origins

less : (v : Vector) (vs : List Vector) (r : ℕ) (ranks : List ℕ) (o : CertStep) (origins : List CertStep) → AreLike (v ∷ vs) (r ∷ ranks) (o ∷ origins) → AreLike vs ranks origins
less v vs r ranks o origins l = record { ranks_count = (let e = l.ranks_count in omega (arith, e)); origins_count = (let e = l.origins_count in omega (arith, e)) }

-- what stands at place i
record RowAt (a : FiniteAlgebra) (rows : List Vector) (ranks : List ℕ) (origins : List CertStep) (i : ℕ) (r : Row) : Type 0 where
  step : CertStep
  origin_at : slice_get origins i ≡ Some step
  within : i < length rows
  vector : slice_index_or rows i [] ≡ r.vector
  rank : slice_index ranks i ≡ r.rank
  origin : origin_of a step ≡ r.origin

record RowsAre (a : FiniteAlgebra) (rows : List Vector) (ranks : List ℕ) (origins : List CertStep) : Type 0 where
  vectors : vectors_of (rows_from a rows ranks origins) ≡ rows
  ranks_are : ranks_of (rows_from a rows ranks origins) ≡ ranks
  each : (i : ℕ) (r : Row) → slice_get (rows_from a rows ranks origins) i ≡ Some r → RowAt a rows ranks origins i r

each_row : (a : FiniteAlgebra) (v : Vector) (vs : List Vector) (r : ℕ) (ranks : List ℕ) (o : CertStep) (origins : List CertStep)
    → RowsAre a vs ranks origins → (i : ℕ) (w : Row) → slice_get (rows_from a (v ∷ vs) (r ∷ ranks) (o ∷ origins)) i ≡ Some w
    → RowAt a (v ∷ vs) (r ∷ ranks) (o ∷ origins) i w
each_row a v vs r ranks o origins rest zero w at =
    let there : Some (record { vector = v; rank = r; origin = origin_of a o }) ≡ Some w = at in
    let same : record { vector = v; rank = r; origin = origin_of a o } ≡ w = cc in
    record { step = o; origin_at = refl; within = omega arith; vector = ap (λ (x : Row). x.vector) same; rank = ap (λ (x : Row). x.rank) same; origin = ap (λ (x : Row). x.origin) same }
each_row a v vs r ranks o origins rest (suc i) w at =
    let h = rest.each i w at in
    let low = h.within in
    record { step = h.step; origin_at = h.origin_at; within = omega (arith, low); vector = h.vector; rank = h.rank; origin = h.origin }

rows_are : (a : FiniteAlgebra) (rows : List Vector) (ranks : List ℕ) (origins : List CertStep) → AreLike rows ranks origins → RowsAre a rows ranks origins
rows_are a [] [] origins l = record { vectors = refl; ranks_are = refl; each = λ i r at. cc }
rows_are a [] (r ∷ ranks) origins l = absurd (let e = l.ranks_count in omega (arith, e))
rows_are a (v ∷ vs) [] origins l = absurd (let e = l.ranks_count in omega (arith, e))
rows_are a (v ∷ vs) (r ∷ ranks) [] l = absurd (let e = l.origins_count in omega (arith, e))
rows_are a (v ∷ vs) (r ∷ ranks) (o ∷ origins) l =
    let rest = rows_are a vs ranks origins (less v vs r ranks o origins l) in
    record {
      vectors = (let e = rest.vectors in λ i. v ∷ e i);
      ranks_are = (let e = rest.ranks_are in λ i. r ∷ e i);
      each = each_row a v vs r ranks o origins rest;
    }

ranks_low : (ranks : List ℕ) (n : ℕ) (xs : List ℕ) → list_all (λ x. nat_lt (slice_index ranks x) n) xs ≡ true → AllByRecursion (λ x. slice_index ranks x < n) xs
ranks_low ranks n [] h = tt
ranks_low ranks n (x ∷ xs) h =
    let e = both (nat_lt (slice_index ranks x) n) (list_all (λ y. nat_lt (slice_index ranks y) n) xs) h in
    (low (slice_index ranks x) e.0, ranks_low ranks n xs e.1)
  where
    low : (j : ℕ) → nat_lt j n ≡ true → j < n
    low j t = grind (arith, nat_tests)

-- the origins that are told, as many as rows
record OriginsOf (a : FiniteAlgebra) (width : ℕ) (gens rows : List Vector) (ranks : List ℕ) (origins : List CertStep) : Type 0 where
  count : length rows ≡ length origins
  each : (i : ℕ) (o : CertStep) → slice_get origins i ≡ Some o → is_made a width gens rows ranks i o ≡ true

origins_made : (a : FiniteAlgebra) (width : ℕ) (gens rows : List Vector) (ranks : List ℕ) (origins : List CertStep) → origins_flaw a width gens rows ranks origins ≡ None → OriginsOf a width gens rows ranks origins
origins_made a width gens rows ranks origins none =
    let first = first_bad (is_made a width gens rows ranks) 0 (take (length rows) origins) in
    let short = unlike_lengths (length rows) (length origins) in
    let l = none_of (first ∷ short ∷ []) (option_none flaw.Origin (first_or_short first (length rows) (length origins)) none) in
    let count : length rows ≡ length origins = like_lengths (length rows) (length origins) l.1.0 in
    let whole : take (length rows) origins ≡ origins = ap (λ n. take n origins) count ∙ take_all (length origins) origins (omega arith) in
    let fine : first_bad (is_made a width gens rows ranks) 0 origins ≡ None = ap (first_bad (is_made a width gens rows ranks) 0) (sym whole) ∙ l.0 in
    record {
      count = count;
      each = λ i o at. (let z : 0 + i ≡ i = omega arith in ap (λ k. is_made a width gens rows ranks k o) (sym z) ∙ each_good (is_made a width gens rows ranks) 0 origins fine i o at);
    }

module _ (a : FiniteAlgebra) (width : ℕ) (gens rows : List Vector) (ranks : List ℕ) (origins : List CertStep) (some : 0 < width) (like : AreLike rows ranks origins) (made : OriginsOf a width gens rows ranks origins) where
  made_row : (i : ℕ) (r : Row) → slice_get (rows_from a rows ranks origins) i ≡ Some r → IsMadeFrom (power a width) gens (rows_from a rows ranks origins) r
  made_row i r at =
      let are = rows_are a rows ranks origins like in
      let here = are.each i r at in
      let ks : arities_of a ≡ arities (power a width) = sym (arities_of_power a width some) in
      let e1 =
      both (is_step a (length gens) (length rows) here.step)
      (list_all (λ x. nat_lt (slice_index ranks x) (slice_index ranks i)) (rows_named here.step)
      && is_same (origin_value (power a width) gens rows (origin_of a here.step)) (slice_index_or rows i []))
      (made.each i here.step here.origin_at) in
      let e2 = both (list_all (λ x. nat_lt (slice_index ranks x) (slice_index ranks i)) (rows_named here.step)) (is_same (origin_value (power a width) gens rows (origin_of a here.step)) (slice_index_or rows i [])) e1.1 in
      let read = step_read a (length gens) (length rows) here.step e1.0 in
      let long : length rows ≡ length (rows_from a rows ranks origins) = ap length (sym are.vectors) ∙ length-map (rows_from a rows ranks origins) (λ (w : Row). w.vector) in
      let lower = ranks_low ranks (slice_index ranks i) (rows_named here.step) e2.0 in
      let arguments : rows_named here.step ≡ arguments_of (arities (power a width)) r.origin = sym read.arguments ∙ ap (λ zs. arguments_of zs (origin_of a here.step)) ks ∙ ap (arguments_of (arities (power a width))) here.origin in
      let bound : slice_index ranks i ≡ r.rank = here.rank in
      record {
        origin = subst (λ n. IsOrigin (arities (power a width)) (length gens) n r.origin) long
            (subst (λ zs. IsOrigin zs (length gens) (length rows) r.origin) ks
            (subst (IsOrigin (arities_of a) (length gens) (length rows)) here.origin read.origin));
        earlier = subst (λ zs. AllByRecursion (λ x. slice_index zs x < r.rank) (arguments_of (arities (power a width)) r.origin)) (sym are.ranks_are)
            (subst (λ n. AllByRecursion (λ x. slice_index ranks x < n) (arguments_of (arities (power a width)) r.origin)) bound
            (subst (AllByRecursion (λ x. slice_index ranks x < slice_index ranks i)) arguments lower));
        value = ap (λ vs. origin_value (power a width) gens vs r.origin) are.vectors
            ∙ ap (origin_value (power a width) gens rows) (sym here.origin)
            ∙ same_is (origin_value (power a width) gens rows (origin_of a here.step)) (slice_index_or rows i []) e2.1
            ∙ here.vector;
      }

pub listing_holds : (a : FiniteAlgebra) (gens : List Vector) (origins : List CertStep) (ranks : List ℕ) (rows : List Vector) (width : ℕ) → listing_flaw a gens origins ranks rows width ≡ None → ListsAll a gens origins ranks rows width
listing_holds a gens origins ranks rows width none =
    let l = none_of (listing_lines a gens origins ranks rows width) none in
    let some = wide width (refusal_none (is_outside width WIDTH) flaw.Width l.0) in
    let once = ranks_once rows ranks l.1.1.1.1.0 in
    let made = origins_made a width gens rows ranks origins l.1.1.1.1.1.0 in
    let like : AreLike rows ranks origins = record { ranks_count = once.count; origins_count = made.count } in
    let are = rows_are a rows ranks origins like in
    let long : length rows ≡ length (rows_from a rows ranks origins) = ap length (sym are.vectors) ∙ length-map (rows_from a rows ranks origins) (λ (w : Row). w.vector) in
    let listing : IsListing (power a width) gens (rows_from a rows ranks origins) = record {
      increasing = subst IsIncreasing (sym are.vectors) (rows_increase rows l.1.1.1.0);
      ranks = subst (EachOnceBelow (length (rows_from a rows ranks origins))) (sym are.ranks_are) (subst (λ n. EachOnceBelow n ranks) long once.once);
      origins = all_from_places (IsMadeFrom (power a width) gens (rows_from a rows ranks origins)) (rows_from a rows ranks origins) (made_row a width gens rows ranks origins some like made);
    } in
    record {
      listing = listing;
      within = omega (arith, long);
      exact = λ v. (
        vector_in (power a width) gens (rows_from a rows ranks origins) listing v,
        λ s. subst (λ vs. Contains vs v) (sym are.vectors) (holds_all a width gens rows l.1.1.1.1.1.1.0 l.1.1.1.1.1.1.1.0 v s),
      );
    }
