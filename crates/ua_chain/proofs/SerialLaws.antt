-- Generators in the listing of one worker.
use Rattle.std.proofs.Common.{◌≡◌, ℕ, zero, suc, ◌<◌, List, [], ◌∷◌, ◌++◌, length, drop, refl, sym, ap, ◌∙◌, subst, arith, Some, ⊎_elim, inl}
use Rattle.std.specs.Prelude.{Contains, slice_index_or, slice_get}
use Rattle.std.specs.Ordering.{nat_cmp, ordering_then}
use Rattle.std.specs.Cmp.{nat_cmp_is}
use Rattle.std.specs.Cmp.Lexicographic.{slice_cmp}
use Rattle.std.specs.declared.cmp.Ordering.TheVariants.{Less, Equal}
use Rattle.std.specs.List.{AllByRecursion}
use Rattle.std.proofs.lemmas.Option.{get_or_from_slice_get, slice_get_within, slice_get-get_or, same_Some}
use Rattle.std.proofs.lemmas.Bool.{cases_lt}
use Rattle.std.proofs.lemmas.List.Elements.{Contains-push, Contains-push_cases}
use Rattle.ua_table.specs.declared.origins.Origin.{Origin}
use Rattle.ua_table.specs.declared.origins.Origin.TheVariants.{Gen, Op}
use Rattle.ua_table.specs.Algebras.{Vector, Product, arities}
use Rattle.ua_table.specs.Origins.{arguments_of}
use Rattle.ua_table.specs.Listings.{Row, vectors_of, ranks_of}
use Rattle.ua_table.specs.Orders.{Record, turn_with, IsNext, IsSerialFrom, IsSerialListing, by_rank}
use Rattle.ua_table.proofs.Lists.{mapped_from, mapped_at, less_first}
use Rattle.ua_listing.specs.Arrangements.{origins_of}
use Rattle.ua_close.specs.Needed.{origin_at, arguments_at, AreStepsFor}

-- the turn of an earlier generator comes first
earlier_turn : (i j : ℕ) → i < j → slice_cmp nat_cmp (0 ∷ i ∷ []) (0 ∷ j ∷ []) ≡ Less
earlier_turn i j h = ap (λ o. ordering_then o (slice_cmp nat_cmp (i ∷ []) (j ∷ []))) (sym (nat_cmp_is 0 0 Equal refl)) ∙ less_first i j [] [] h

-- each record of a serial list is the next one after some
next_at : (p : Product) (gens earlier : List Vector) (rs : List Record) (k : ℕ) (r : Record) → IsSerialFrom p gens earlier rs → slice_get rs k ≡ Some r → (before : List Vector) × IsNext p gens before r
next_at p gens earlier [] k r h e = cc
next_at p gens earlier (s ∷ rs) zero r h e = (earlier, subst (IsNext p gens earlier) (same_Some s r e) h.0)
next_at p gens earlier (s ∷ rs) (suc k) r h e = next_at p gens (earlier ++ s.0 ∷ []) rs k r h.1 e

-- no operation comes before a generator
operation_late : (ks : List ℕ) (f j : ℕ) (args : List ℕ) → slice_cmp nat_cmp (0 ∷ j ∷ []) (turn_with ks f args) ≡ Less
operation_late ks f j [] = less_first 0 1 (j ∷ []) (f ∷ []) (omega arith)
operation_late ks f j (x ∷ xs) = less_first 0 2 (j ∷ []) (drop 1 (turn_with ks f (x ∷ xs))) (omega arith)

-- a generator's vector comes as the generator, where it is the first with it
generator_next : (p : Product) (gens before : List Vector) (v : Vector) (o : Origin) (j : ℕ) → IsNext p gens before (v, o) → slice_get gens j ≡ Some v → ((i : ℕ) → i < j → slice_get gens i ≡ Some v → ⊥) → o ≡ Gen j
generator_next p gens before v (Gen i) j h e first =
    let low = slice_get_within gens j v e in
    let here : slice_get gens i ≡ Some v = slice_get-get_or gens i [] h.origin ∙ ap Some h.value in
    let there : slice_index_or gens j [] ≡ v = get_or_from_slice_get gens j v [] e in
    ⊎_elim
    (λ (below : i < j). absurd (first i below here))
    (λ above. ⊎_elim
    (λ (late : j < i). absurd (h.new (subst (Contains before) there (h.first (Gen j) low (earlier_turn j i late)))))
    (λ close. ap Gen (let same : i ≡ j = omega (arith, above, close) in same))
    (cases_lt j i))
    (cases_lt i j)
generator_next p gens before v (Op f args) j h e first =
    let low = slice_get_within gens j v e in
    let there : slice_index_or gens j [] ≡ v = get_or_from_slice_get gens j v [] e in
    absurd (h.new (subst (Contains before) there (h.first (Gen j) low (operation_late (arities p) f j (arguments_of (arities p) (Op f args))))))

generator_by_rank : (ks ranks : List ℕ) (o : Origin) (j : ℕ) → by_rank ks ranks o ≡ Gen j → o ≡ Gen j
generator_by_rank ks ranks (Gen i) j e = e
generator_by_rank ks ranks (Op f args) j e = cc

pub serial_generator : (p : Product) (gens : List Vector) (rows : List Row) (i j : ℕ) (v : Vector) → IsSerialListing p gens rows
    → slice_get (vectors_of rows) i ≡ Some v → slice_get gens j ≡ Some v → ((k : ℕ) → k < j → slice_get gens k ≡ Some v → ⊥)
    → origin_at rows i ≡ Gen j
serial_generator p gens rows i j v s at e first =
    let row = mapped_from (λ (r : Row). r.vector) rows i v at in
    let r = row.0 in
    let taken = s.taken i r row.1 in
    let next = next_at p gens [] s.records r.rank (r.vector, by_rank (arities p) (ranks_of rows) r.origin) s.serial taken in
    let is_next : IsNext p gens next.0 (v, by_rank (arities p) (ranks_of rows) r.origin) = subst (λ (w : Vector). IsNext p gens next.0 (w, by_rank (arities p) (ranks_of rows) r.origin)) row.2 next.1 in
    get_or_from_slice_get (origins_of rows) i r.origin (Gen 0) (mapped_at (λ (w : Row). w.origin) rows i r row.1)
    ∙ generator_by_rank (arities p) (ranks_of rows) r.origin j (generator_next p gens next.0 v (by_rank (arities p) (ranks_of rows) r.origin) j is_next e first)

-- so the one step that is the generator is the steps of its row
pub generator_steps_for : (ks : List ℕ) (rows : List Row) (i j : ℕ) → i < length rows → origin_at rows i ≡ Gen j → AreStepsFor ks rows i (Gen j ∷ [])
generator_steps_for ks rows i j low e =
    let only : (q : ℕ) → Contains (i ∷ []) q → i ≡ q = λ q c. ⊎_elim (λ d. absurd (let l = d.1 in omega arith)) (λ same. same) (Contains-push_cases [] i q c) in
    record {
      places = i ∷ [];
      are_needed = record {
        itself = Contains-push [] i;
        within = (low, tt);
        arguments = λ q c. subst (λ k. AllByRecursion (Contains (i ∷ [])) (arguments_at ks rows k)) (only q c) (subst (λ (o : Origin). AllByRecursion (Contains (i ∷ [])) (arguments_of ks o)) (sym e) tt);
        needed = λ q c. inl (sym (only q c));
        ascending = λ k l less within. absurd (omega arith);
        last = (omega arith, tt);
      };
      numbers = [];
      numbered = λ k l. let none : 0 ≡ k = omega arith in none;
      steps_are = ap (λ (o : Origin). by_rank ks [] o ∷ []) (sym e);
    }
