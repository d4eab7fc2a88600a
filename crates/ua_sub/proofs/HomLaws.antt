-- Listings of pairs, and the first clash of one.
use Rattle.std.proofs.Common.{◌≡◌, ◌≢◌, ⊎_elim, ℕ, zero, suc, ◌+◌, ◌<◌, ◌≤◌, Bool, true, false, List, [], ◌∷◌, ◌++◌, length, map, take, get_or, Some, Ok, Err, refl, sym, ap, ◌∙◌, subst, arith}
use Rattle.std.specs.Prelude.{Contains, Result, ◌↔◌, slice_get, slice_index, ◌==◌, ◌&&◌, not}
use Rattle.std.specs.List.{AllByRecursion, AllZip, list_any}
use Rattle.std.proofs.lemmas.Bool.{eq-eqb, eqb-true, or_cases, or_left, and_parts, cases_lt, cases_eq}
use Rattle.std.proofs.lemmas.List.{length-map, map-append, take_more}
use Rattle.std.proofs.lemmas.Option.{slice_get_within, get_or_from_slice_get}
use Rattle.ua_table.specs.Algebras.{FiniteAlgebra, Product, Vector, IsVector, IsIncreasing, arities, signature}
use Rattle.ua_table.specs.Counting.{EachOnceBelow}
use Rattle.ua_table.specs.Generated.{Sg}
use Rattle.ua_table.specs.Listings.{Row, vectors_of, ranks_of, IsListing, IsClosedListing}
use Rattle.ua_table.proofs.ListingLaws.{vector_in}
use Rattle.ua_table.proofs.Lists.{Contains-cases, Contains-none, all_from_contains, AllZip-length}
use Rattle.ua_term.specs.Steps.{StepList}
use Rattle.ua_work.specs.Goals.{clashes, has_clash, Meets}
use Rattle.ua_work.specs.declared.goals.Goal.TheVariants as goals
use Rattle.ua_close.specs.Needed.{rank_at, AreStepsFor}
use Rattle.ua_close.specs.Memberships.{AreStepsTo}
use Rattle.ua_close.proofs.MetLaws.{meets_more}
use Rattle.ua_close.proofs.NeedLaws.{position_is, rank_below, one_rank}
use Rattle.ua_sub.specs.Homs.{both, two, with_images, vector_at, ClashInOrder, IsFirstPairClash, IsMap, IsPairClash, IsListedClash}
use Rattle.ua_sub.specs.Permitted.{MayMapPairs, MayMap}
use Rattle.ua_sub.specs.declared.homs.HomError.{HomError}
use Rattle.ua_sub.specs.declared.homs.HomError.TheVariants.{Signature, Wide, OutOfMemory}
use Rattle.ua_sub.specs.declared.homs.Hom.{Hom}

-- ---- rows as pairs

-- a vector of two coordinates by its entries
pub by_entries : (v : Vector) (x y : ℕ) → length v ≡ 2 → x ≡ get_or v 0 0 → y ≡ get_or v 1 0 → two (x, y) ≡ v
by_entries [] x y e a b = absurd (omega (arith, e))
by_entries (s ∷ []) x y e a b = absurd (omega (arith, e))
by_entries (s ∷ t ∷ []) x y e a b = λ i. a i ∷ b i ∷ []
by_entries (s ∷ t ∷ u ∷ vs) x y e a b = absurd (omega (arith, e))

-- a row of a listing, behind those before it
pub pairs_more : (pairs : List (ℕ × ℕ)) (q : ℕ × ℕ) (vs : List Vector) (i : ℕ) → map two pairs ≡ take i vs → slice_get vs i ≡ Some (two q) → map two (pairs ++ q ∷ []) ≡ take (i + 1) vs
pairs_more pairs q vs i same at =
    map-append two pairs (q ∷ [])
    ∙ ap (λ (ws : List Vector). ws ++ two q ∷ []) same
    ∙ ap (λ (w : Vector). take i vs ++ w ∷ []) (sym (get_or_from_slice_get vs i (two q) [] at))
    ∙ sym (take_more vs i [] (slice_get_within vs i (two q) at))

-- a generator with its image, behind those before it
images_more : (gens images : List ℕ) (i : ℕ) → i < length gens → length images ≡ length gens → take (suc i) (with_images gens images) ≡ take i (with_images gens images) ++ two (get_or gens i 0, get_or images i 0) ∷ []
images_more [] images i h e = absurd (omega (arith, h))
images_more (g ∷ gens) [] i h e = absurd (omega (arith, e))
images_more (g ∷ gens) (k ∷ images) zero h e = refl
images_more (g ∷ gens) (k ∷ images) (suc i) h e = ap (λ (vs : List Vector). two (g, k) ∷ vs) (images_more gens images i (omega (arith, h)) (omega (arith, e)))

pub with_images_more : (gens images : List ℕ) (i : ℕ) → i < length gens → length images ≡ length gens → take (i + 1) (with_images gens images) ≡ take i (with_images gens images) ++ two (get_or gens i 0, get_or images i 0) ∷ []
with_images_more gens images i h e = let s : i + 1 ≡ suc i = omega arith in ap (λ n. take n (with_images gens images)) s ∙ images_more gens images i h e

pub length-with_images : (gens images : List ℕ) → length images ≡ length gens → length (with_images gens images) ≡ length gens
length-with_images [] images e = refl
length-with_images (g ∷ gens) [] e = e
length-with_images (g ∷ gens) (k ∷ images) e = ap suc (length-with_images gens images (omega (arith, e)))

-- elements of two algebras are vectors of their product
pub images_admitted : (a b : FiniteAlgebra) (gens images : List ℕ) → AllByRecursion (λ x. x < a.size) gens → AllByRecursion (λ x. x < b.size) images → AllByRecursion (IsVector (both a b)) (with_images gens images)
images_admitted a b [] images h k = tt
images_admitted a b (g ∷ gens) [] h k = tt
images_admitted a b (g ∷ gens) (x ∷ images) h k = ((h.0, (k.0, tt)), images_admitted a b gens images h.1 k.1)

-- the frame of two algebras is their product
pub frame_is : (a b : FiniteAlgebra) (algebras : List FiniteAlgebra) (names : List ℕ) (p : Product) → algebras ≡ both a b → names ≡ 0 ∷ 1 ∷ [] → AllZip (λ n x. slice_get algebras n ≡ Some x) names p → p ≡ both a b
frame_is a b algebras names p algebras_are names_are h = of_two p (subst (λ (q : List FiniteAlgebra × List ℕ). AllZip (λ n x. slice_get q.0 n ≡ Some x) q.1 p) (λ i. (algebras_are i, names_are i)) h)
  where
    of_two : (p : Product) → AllZip (λ n x. slice_get (both a b) n ≡ Some x) (0 ∷ 1 ∷ []) p → p ≡ both a b
    of_two [] h = absurd h
    of_two (x ∷ []) h = absurd h.1
    of_two (x ∷ y ∷ []) h = let first : x ≡ a = (let e = h.0 in cc) in let second : y ≡ b = (let e = h.1.0 in cc) in λ i. first i ∷ second i ∷ []
    of_two (x ∷ y ∷ z ∷ p) h = absurd h.1.1

-- rows of a subuniverse of two coordinates have two entries
pub widths : (p : Product) (gens : List Vector) (rows : List Row) → length p ≡ 2 → ((v : Vector) → Sg p gens v → IsVector p v) → IsListing p gens rows → AllByRecursion (λ (v : Vector). length v ≡ 2) (vectors_of rows)
widths p gens rows two_wide vectors listing =
    all_from_contains (λ (v : Vector). length v ≡ 2) (vectors_of rows)
    (λ v c. sym (AllZip-length (λ (x : FiniteAlgebra) y. y < x.size) p v (vectors v (vector_in p gens rows listing v c))) ∙ two_wide)

-- ---- pairs that clash

pub clash_parts : (v w : Vector) → clashes v w ≡ true → (slice_index v 0 ≡ slice_index w 0) × (slice_index v 1 ≢ slice_index w 1)
clash_parts v w h =
    let parts = and_parts (slice_index v 0 == slice_index w 0) (not (slice_index v 1 == slice_index w 1)) h in
    (eqb-true (slice_index v 0) (slice_index w 0) parts.0, λ e. (let bad : not true ≡ true = ap not (sym (eq-eqb (slice_index v 1) (slice_index w 1) e)) ∙ parts.1 in cc))

pub clash_from : (v w : Vector) → slice_index v 0 ≡ slice_index w 0 → slice_index v 1 ≢ slice_index w 1 → clashes v w ≡ true
clash_from v w same apart = by (slice_index v 1 == slice_index w 1) refl
  where
    by : (b : Bool) → (slice_index v 1 == slice_index w 1) ≡ b → clashes v w ≡ true
    by true e = absurd (apart (eqb-true (slice_index v 1) (slice_index w 1) e))
    by false e = (λ i. eq-eqb (slice_index v 0) (slice_index w 0) same i && not (e i))

pub clash_swap : (v w : Vector) → clashes v w ≡ true → clashes w v ≡ true
clash_swap v w h = let parts = clash_parts v w h in clash_from w v (sym parts.0) (λ e. parts.1 (sym e))

-- two vectors of a list clash
record AreClashing (vs : List Vector) : Type 0 where
  i : ℕ
  j : ℕ
  order : i < j
  within : j < length vs
  clash : clashes (get_or vs i []) (get_or vs j []) ≡ true

any_place : (test : Vector → Bool) (vs : List Vector) → list_any test vs ≡ true → (j : ℕ) × (j < length vs) × (test (get_or vs j []) ≡ true)
any_place test [] h = cc
any_place test (v ∷ vs) h = ⊎_elim (λ here. (0, omega arith, here)) (λ rest. let r = any_place test vs rest in (suc r.0, (let w = r.1 in omega (arith, w)), r.2)) (or_cases (test v) (list_any test vs) h)

clashing : (vs : List Vector) → has_clash vs ≡ true → AreClashing vs
clashing [] h = cc
clashing (v ∷ vs) h = ⊎_elim
    (λ here. let r = any_place (clashes v) vs here in record { i = 0; j = suc r.0; order = omega arith; within = (let w = r.1 in omega (arith, w)); clash = r.2 })
    (λ rest. let r = clashing vs rest in record { i = suc r.i; j = suc r.j; order = (let o = r.order in omega (arith, o)); within = (let w = r.within in omega (arith, w)); clash = r.clash })
    (or_cases (list_any (clashes v) vs) (has_clash vs) h)

-- ---- the first clash

module _ (rows : List Row) (once : EachOnceBelow (length rows) (ranks_of rows)) where
  pub rank_low : (i rank : ℕ) → slice_get (ranks_of rows) i ≡ Some rank → rank < length rows
  rank_low i rank e = let here = position_is rows i rank e in let low = rank_below rows once i here.0 in omega (arith, low, here.1)

  -- where vectors clash, two rows do in the order of their ranks
  some_clash : Meets goals.Clash (vectors_of rows) → (i : ℕ) × (j : ℕ) × ClashInOrder rows i j
  some_clash met =
      let c = clashing (vectors_of rows) met in
      let long = length-map rows (λ (r : Row). r.vector) in
      let later : c.j < length rows = (let w = c.within in omega (arith, w, long)) in
      let earlier : c.i < length rows = (let o = c.order in omega (arith, o, later)) in
      ⊎_elim
      (λ low. (c.i, c.j, record { earlier_within = earlier; later_within = later; order = low; clash = c.clash }))
      (λ high. (
        c.j,
        c.i,
        record {
          earlier_within = later;
          later_within = earlier;
          order = ⊎_elim (λ same. absurd (let e = one_rank rows once c.i c.j earlier later same in let o = c.order in omega (arith, o, e))) (λ apart. omega (arith, high, apart)) (cases_eq (rank_at rows c.i) (rank_at rows c.j));
          clash = clash_swap (vector_at rows c.i) (vector_at rows c.j) c.clash;
        },
      ))
      (cases_lt (rank_at rows c.i) (rank_at rows c.j))

  -- so not all of them can have been passed over
  pub not_all : Meets goals.Clash (vectors_of rows) → (n : ℕ) → length rows ≤ n → ((k l : ℕ) → ClashInOrder rows k l → n ≤ rank_at rows l) → ⊥
  not_all met n all none =
      let c = some_clash met in
      let low = rank_below rows once c.1 c.2.later_within in
      let high = none c.0 c.1 c.2 in
      omega (arith, low, high, all)

module _ (rows : List Row) (once : EachOnceBelow (length rows) (ranks_of rows)) (rank place : ℕ) (at : slice_get (ranks_of rows) place ≡ Some rank) where
  -- one row more is looked at that does not clash with a later one
  pub earlier_more : (later : ℕ) (q r : ℕ × ℕ) → slice_get (vectors_of rows) later ≡ Some (two q) → slice_get (vectors_of rows) place ≡ Some (two r)
      → ¬ ((r.0 ≡ q.0) × (r.1 ≢ q.1)) → ((i : ℕ) → ClashInOrder rows i later → rank ≤ rank_at rows i) → (i : ℕ) → ClashInOrder rows i later
      → rank + 1 ≤ rank_at rows i
  earlier_more later q r at_q at_r apart before i clash = ⊎_elim
      (λ here.
      let same = one_rank rows once i place clash.earlier_within (position_is rows place rank at).0 (here ∙ sym (position_is rows place rank at).1) in
      let r_is : vector_at rows i ≡ two r = ap (vector_at rows) same ∙ get_or_from_slice_get (vectors_of rows) place (two r) [] at_r in
      let q_is : vector_at rows later ≡ two q = get_or_from_slice_get (vectors_of rows) later (two q) [] at_q in
      absurd (apart (clash_parts (two r) (two q) (subst (λ (w : Vector × Vector). clashes w.0 w.1 ≡ true) (λ k. (r_is k, q_is k)) clash.clash))))
      (λ other. let low = before i clash in omega (arith, low, other))
      (cases_eq (rank_at rows i) rank)

  -- or that does
  pub clash_here : (later rank_later : ℕ) (q r : ℕ × ℕ) → slice_get (ranks_of rows) later ≡ Some rank_later → rank < rank_later
      → slice_get (vectors_of rows) later ≡ Some (two q) → slice_get (vectors_of rows) place ≡ Some (two r) → r.0 ≡ q.0 → r.1 ≢ q.1
      → ClashInOrder rows place later
  clash_here later rank_later q r at_later low at_q at_r same apart =
      let here = position_is rows place rank at in
      let there = position_is rows later rank_later at_later in
      let r_is : vector_at rows place ≡ two r = get_or_from_slice_get (vectors_of rows) place (two r) [] at_r in
      let q_is : vector_at rows later ≡ two q = get_or_from_slice_get (vectors_of rows) later (two q) [] at_q in
      record {
        earlier_within = here.0;
        later_within = there.0;
        order = omega (arith, low, here.1, there.1);
        clash = subst (λ (w : Vector × Vector). clashes w.0 w.1 ≡ true) (λ k. (sym r_is k, sym q_is k)) (clash_from (two r) (two q) same apart);
      }

  -- one row more is looked at that clashes with none before it
  pub later_more : ((i : ℕ) → ¬ ClashInOrder rows i place) → ((i j : ℕ) → ClashInOrder rows i j → rank ≤ rank_at rows j) → (i j : ℕ) → ClashInOrder rows i j → rank + 1 ≤ rank_at rows j
  later_more none before i j clash = ⊎_elim
      (λ here.
      let same = one_rank rows once j place clash.later_within (position_is rows place rank at).0 (here ∙ sym (position_is rows place rank at).1) in
      absurd (none i (subst (ClashInOrder rows i) same clash)))
      (λ other. let low = before i j clash in omega (arith, low, other))
      (cases_eq (rank_at rows j) rank)

-- ---- what is told of the pairs

-- of a closed listing that does not meet the goal
pub map_is : (p : Product) (gens : List Vector) (b : ℕ) (rows : List Row) (pairs : List (ℕ × ℕ)) → IsClosedListing p gens b rows → ¬ Meets goals.Clash (vectors_of rows) → map two pairs ≡ vectors_of rows → IsMap p gens b pairs
map_is p gens b rows pairs closed unmet same = record {
  ascending = subst IsIncreasing (sym same) closed.listing.increasing;
  exact = λ v. subst (λ (vs : List Vector). Contains vs v ↔ Sg p gens v) (sym same) (closed.exact v);
  within = (let one = length-map pairs two in let other = length-map rows (λ (r : Row). r.vector) in let e = ap length same in let w = closed.within in omega (arith, one, other, e, w));
  graph = λ x y z first second. ⊎_elim (λ e. e) (λ apart. absurd (unmet (meets_more goals.Clash (two (x, y) ∷ two (x, z) ∷ []) (vectors_of rows) (both_in x y z first second) (they_clash x y z apart)))) (cases_eq y z);
}
  where
    both_in : (x y z : ℕ) → Sg p gens (two (x, y)) → Sg p gens (two (x, z)) → (v : Vector) → Contains (two (x, y) ∷ two (x, z) ∷ []) v → Contains (vectors_of rows) v
    both_in x y z first second v c = ⊎_elim
        (λ e. subst (Contains (vectors_of rows)) e ((closed.exact (two (x, y))).1 first))
        (λ rest. ⊎_elim (λ e. subst (Contains (vectors_of rows)) e ((closed.exact (two (x, z))).1 second)) (λ none. absurd (Contains-none v none)) (Contains-cases (two (x, z)) v [] rest))
        (Contains-cases (two (x, y)) v (two (x, z) ∷ []) c)

    they_clash : (x y z : ℕ) → (y ≡ z → ⊥) → has_clash (two (x, y) ∷ two (x, z) ∷ []) ≡ true
    they_clash x y z apart = or_left (list_any (clashes (two (x, y))) (two (x, z) ∷ [])) (has_clash (two (x, z) ∷ [])) (or_left (clashes (two (x, y)) (two (x, z))) false (clash_from (two (x, y)) (two (x, z)) refl apart))

-- of the rows of a clash
pub clash_is : (p : Product) (gens : List Vector) (rows : List Row) (earlier later : ℕ) (q r : ℕ × ℕ) (first second : StepList)
    → IsFirstPairClash rows earlier later → slice_get (vectors_of rows) earlier ≡ Some (two q) → slice_get (vectors_of rows) later ≡ Some (two r)
    → AreStepsTo p gens (two q) first → AreStepsTo p gens (two r) second → AreStepsFor (arities p) rows earlier first.items
    → AreStepsFor (arities p) rows later second.items
    → IsPairClash p gens q.0 q.1 r.1 first second × IsListedClash (arities p) rows q.0 q.1 r.1 first second
clash_is p gens rows earlier later q r first second clash at_q at_r to_q to_r for_q for_r =
    let q_is : vector_at rows earlier ≡ two q = get_or_from_slice_get (vectors_of rows) earlier (two q) [] at_q in
    let r_is : vector_at rows later ≡ two r = get_or_from_slice_get (vectors_of rows) later (two r) [] at_r in
    let parts = clash_parts (two q) (two r) (subst (λ (w : Vector × Vector). clashes w.0 w.1 ≡ true) (λ i. (q_is i, r_is i)) clash.clash.clash) in
    let other : two r ≡ two (q.0, r.1) = ap (λ x. two (x, r.1)) (sym parts.0) in (
      record { apart = parts.1; first_steps = to_q; second_steps = subst (λ (u : Vector). AreStepsTo p gens u second) other to_r },
      record {
        earlier = earlier;
        later = later;
        clash = clash;
        stands = at_q;
        stands_later = at_r ∙ ap Some other;
        first_steps = for_q;
        second_steps = for_r;
      },
    )

-- of two algebras of one signature
pub of_both : (a b : FiniteAlgebra) (gens images : List ℕ) (p : Product) (pairs : List Vector) (budget workers : ℕ) (answer : Result Hom HomError)
    → signature b ≡ signature a → p ≡ both a b → pairs ≡ with_images gens images → MayMapPairs p pairs budget workers answer
    → MayMap a b gens images budget workers answer
of_both a b gens images p pairs budget workers answer similar p_is pairs_are h = by answer (subst (λ (q : Product × List Vector). MayMapPairs q.0 q.1 budget workers answer) (λ i. (p_is i, pairs_are i)) h)
  where
    by : (answer : Result Hom HomError) → MayMapPairs (both a b) (with_images gens images) budget workers answer → MayMap a b gens images budget workers answer
    by (Ok hom) h = (similar, h)
    by (Err Signature) h = absurd h
    by (Err (Wide r c)) h = (similar, h)
    by (Err OutOfMemory) h = h
