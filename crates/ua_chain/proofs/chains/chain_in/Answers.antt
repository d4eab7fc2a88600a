use Rattle.std.proofs.Common.{◌≡◌, ◌<◌, ◌-◌, length, List, ℕ, Some, sym, ap, ◌∙◌, subst}
use Rattle.std.specs.Prelude.{slice_get}
use Rattle.std.specs.List.{AllByRecursion}
use Rattle.ua_table.specs.Listings.{vectors_of}
use Rattle.ua_table.proofs.ListingLaws.{closed_has_no_more}
use Rattle.ua_term.specs.Steps.{StepList}
use Rattle.ua_climb.specs.declared.ladders.Climb.TheVariants.{Rows, Reached}
use Rattle.ua_chain.specs.inner.Closures.{AreStepsAt, AreEvenNumbers, AreOddNumbers}
use Rattle.ua_chain.specs.inner.ClimbsIn.{IsClimbIn}
use Rattle.ua_chain.proofs.VectorLaws.{closure_from, end_made, some_generators, some_places}
use Rattle.ua_chain.proofs.ClimbInLaws.{closed_for, is_closed_for, generator_there, generator_row, end_row, widths_of, start_allowed, row_within, rows_within, chart_of, yes_answer, serial_answer, no_answer, even_lent, odd_lent}
use Rattle.ua_chain.proofs.chains.chain_in.Goals as goal
use Rattle.ua_identity.specs.Chains.{power_of, generators_of}

pub get-requires : goal.get-requires
get-requires c = some_generators c.args.a.now c.args.kind.now c.args.gens.now.items c.places-places.ensures.kind c.requires.generators

pub unreachable-requires : goal.unreachable-requires
unreachable-requires c = c.in_default.ensures.absent (generator_there c.args.frame.now c.args.gens.now.items c.requires.closed.0 c.args.list 0 c.get.result.now c.requires.closed.2 c.get.ensures.vector)

pub unreachable-requires-in_default-find : goal.unreachable-requires-in_default-find
unreachable-requires-in_default-find c = c.in_default-find.ensures.absent (generator_there c.args.frame.now c.args.gens.now.items c.requires.closed.0 c.args.list _ c.get-2.result.now c.requires.closed.2 c.get-2.ensures.vector)

pub climb_in-requires-clause-widths : goal.climb_in-requires-clause-widths
climb_in-requires-clause-widths c =
    let closure = closure_from c.args.a.now c.args.kind.now c.args.frame.now c.args.gens.now.items c.places-places.ensures.kind c.size-size.ensures.algebra.algebra.inhabited c.requires.frame c.requires.generators in
    widths_of c.args.a.now c.args.kind.now (vectors_of c.args.list) c.size-size.result
    (is_closed_for c.args.a.now c.args.kind.now c.args.frame.now c.args.gens.now.items c.requires.closed.0 c.args.list closure c.requires.closed.2)
    c.size-size.ensures.size

pub climb_in-requires-clause-start : goal.climb_in-requires-clause-start
climb_in-requires-clause-start c = λ allowed own.
    let a = c.args.a.now in
    let kind = c.args.kind.now in
    let k = c.places-places.ensures.kind in
    let row = generator_row a kind (vectors_of c.args.list) 0 c.in-Some.start c.get.result.now (some_places kind k) (ap (λ (gs : List (List ℕ)). slice_get gs 0) (sym c.requires.generators) ∙ c.get.ensures.vector) c.in-Some.ensures.found in
    start_allowed a kind (vectors_of c.args.list) c.size-size.result c.in-Some.start allowed k c.size-size.ensures.size row own

pub climb_in-requires-clause-end : goal.climb_in-requires-clause-end
climb_in-requires-clause-end c = row_within c.args.list c.in-Some-find.end c.get-2.result.now c.in-Some-find.ensures.found

pub chain_steps-requires-clause-rows : goal.chain_steps-requires-clause-rows
chain_steps-requires-clause-rows c =
    let found : IsClimbIn c.size-size.result c.args.kind.now (vectors_of c.args.list) c.in-Some.start c.in-Some-find.end (Rows c.in-Rows.rows) =
    subst (IsClimbIn c.size-size.result c.args.kind.now (vectors_of c.args.list) c.in-Some.start c.in-Some-find.end) c.in-Rows.is
    c.in_ok-rows.ensures in
    subst (AllByRecursion (λ i. i < length c.args.list)) (sym c.as_slice.ensures.value)
    (rows_within c.size-size.result c.args.kind.now c.args.list c.in-Some.start c.in-Some-find.end (Rows c.in-Rows.rows) c.in-Rows.rows.items found
    (λ h. h.climbs))

pub returns-in_ok-steps-in-Rows-clause-chain : goal.returns-in_ok-steps-in-Rows-clause-chain
returns-in_ok-steps-in-Rows-clause-chain c = λ b closed.
    let a = c.args.a.now in
    let kind = c.args.kind.now in
    let p = c.args.frame.now in
    let gens = c.args.gens.now.items in
    let vs = vectors_of c.args.list in
    let closure = closure_from c.args.a.now c.args.kind.now c.args.frame.now c.args.gens.now.items c.places-places.ensures.kind c.size-size.ensures.algebra.algebra.inhabited c.requires.frame c.requires.generators in
    let last = end_made a kind gens c.places-places.result c.requires.generators c.places-places.ensures.places c.places-places.ensures.end in
    let start = generator_row a kind vs 0 c.in-Some.start c.get.result.now (some_places kind closure.is_kind) (ap (λ (gs : List (List ℕ)). slice_get gs 0) (sym c.requires.generators) ∙ c.get.ensures.vector) c.in-Some.ensures.found in
    let end = end_row a kind p gens vs c.in-Some-find.end c.get-2.result.now _ closure last (ap (λ (n : ℕ). n - 1) c.len.ensures) c.get-2.ensures.vector c.in-Some-find.ensures.found in
    let found : IsClimbIn a.size kind vs c.in-Some.start c.in-Some-find.end (Rows c.in-Rows.rows) =
    subst (λ n. IsClimbIn n kind vs c.in-Some.start c.in-Some-find.end (Rows c.in-Rows.rows)) c.size-size.ensures.size
    (subst (IsClimbIn c.size-size.result kind vs c.in-Some.start c.in-Some-find.end) c.in-Rows.is c.in_ok-rows.ensures) in
    let chart = chart_of a kind vs c.in-Some.start c.in-Some-find.end (Rows c.in-Rows.rows) (is_closed_for a kind p gens b c.args.list closure closed) found in
    let same = c.as_slice.ensures.value in
    let count = c.in_ok-steps-in-Rows.ensures.count ∙ ap length same in
    let at : (j : ℕ) (s : StepList) → slice_get c.in_ok-steps-in-Rows.steps.items j ≡ Some s
    → AreStepsAt p gens c.args.list c.in-Rows.rows.items (length gens - 1) j s =
    λ j s e.
    subst (λ (rows : List ℕ). AreStepsAt p gens c.args.list rows (length gens - 1) j s) same (c.in_ok-steps-in-Rows.ensures.steps j s e) in (
      yes_answer a kind p gens c.args.list found.allowed found.even found.odd c.in-Some.start c.in-Some-find.end c.in-Rows.rows.items c.in_ok-steps-in-Rows.steps.items closure chart start end found.climbs last count at,
      closed_has_no_more (power_of a kind) (generators_of a kind) b c.args.list (closed_for a kind p gens b c.args.list closure closed),
    )

pub returns-in_ok-steps-in-Rows-clause-serial : goal.returns-in_ok-steps-in-Rows-clause-serial
returns-in_ok-steps-in-Rows-clause-serial c = λ b closed serial.
    let a = c.args.a.now in
    let kind = c.args.kind.now in
    let p = c.args.frame.now in
    let gens = c.args.gens.now.items in
    let vs = vectors_of c.args.list in
    let closure = closure_from c.args.a.now c.args.kind.now c.args.frame.now c.args.gens.now.items c.places-places.ensures.kind c.size-size.ensures.algebra.algebra.inhabited c.requires.frame c.requires.generators in
    let last = end_made a kind gens c.places-places.result c.requires.generators c.places-places.ensures.places c.places-places.ensures.end in
    let start = generator_row a kind vs 0 c.in-Some.start c.get.result.now (some_places kind closure.is_kind) (ap (λ (gs : List (List ℕ)). slice_get gs 0) (sym c.requires.generators) ∙ c.get.ensures.vector) c.in-Some.ensures.found in
    let end = end_row a kind p gens vs c.in-Some-find.end c.get-2.result.now _ closure last (ap (λ (n : ℕ). n - 1) c.len.ensures) c.get-2.ensures.vector c.in-Some-find.ensures.found in
    let found : IsClimbIn a.size kind vs c.in-Some.start c.in-Some-find.end (Rows c.in-Rows.rows) =
    subst (λ n. IsClimbIn n kind vs c.in-Some.start c.in-Some-find.end (Rows c.in-Rows.rows)) c.size-size.ensures.size
    (subst (IsClimbIn c.size-size.result kind vs c.in-Some.start c.in-Some-find.end) c.in-Rows.is c.in_ok-rows.ensures) in
    let chart = chart_of a kind vs c.in-Some.start c.in-Some-find.end (Rows c.in-Rows.rows) (is_closed_for a kind p gens b c.args.list closure closed) found in
    let same = c.as_slice.ensures.value in
    let count = c.in_ok-steps-in-Rows.ensures.count ∙ ap length same in
    let at : (j : ℕ) (s : StepList) → slice_get c.in_ok-steps-in-Rows.steps.items j ≡ Some s
    → AreStepsAt p gens c.args.list c.in-Rows.rows.items (length gens - 1) j s =
    λ j s e.
    subst (λ (rows : List ℕ). AreStepsAt p gens c.args.list rows (length gens - 1) j s) same (c.in_ok-steps-in-Rows.ensures.steps j s e) in
    serial_answer a kind p gens c.args.list found.allowed found.even found.odd c.in-Some.start c.in-Some-find.end c.in-Rows.rows.items c.in_ok-steps-in-Rows.steps.items closure chart start end found.climbs last count at b closed serial

pub returns-in_ok-odd-in-Reached-clause-chain : goal.returns-in_ok-odd-in-Reached-clause-chain
returns-in_ok-odd-in-Reached-clause-chain c = λ b closed.
    let a = c.args.a.now in
    let kind = c.args.kind.now in
    let p = c.args.frame.now in
    let gens = c.args.gens.now.items in
    let vs = vectors_of c.args.list in
    let closure = closure_from c.args.a.now c.args.kind.now c.args.frame.now c.args.gens.now.items c.places-places.ensures.kind c.size-size.ensures.algebra.algebra.inhabited c.requires.frame c.requires.generators in
    let last = end_made a kind gens c.places-places.result c.requires.generators c.places-places.ensures.places c.places-places.ensures.end in
    let start = generator_row a kind vs 0 c.in-Some.start c.get.result.now (some_places kind closure.is_kind) (ap (λ (gs : List (List ℕ)). slice_get gs 0) (sym c.requires.generators) ∙ c.get.ensures.vector) c.in-Some.ensures.found in
    let end = end_row a kind p gens vs c.in-Some-find.end c.get-2.result.now _ closure last (ap (λ (n : ℕ). n - 1) c.len.ensures) c.get-2.ensures.vector c.in-Some-find.ensures.found in
    let is : c.in_ok-rows.field-0 ≡ Reached c.in-Reached.at_even c.in-Reached.at_odd = c.in-Reached.is in
    let found : IsClimbIn a.size kind vs c.in-Some.start c.in-Some-find.end (Reached c.in-Reached.at_even c.in-Reached.at_odd) =
    subst (λ n. IsClimbIn n kind vs c.in-Some.start c.in-Some-find.end (Reached c.in-Reached.at_even c.in-Reached.at_odd))
    c.size-size.ensures.size (subst (IsClimbIn c.size-size.result kind vs c.in-Some.start c.in-Some-find.end) is c.in_ok-rows.ensures) in
    let chart = chart_of a kind vs c.in-Some.start c.in-Some-find.end (Reached c.in-Reached.at_even c.in-Reached.at_odd) (is_closed_for a kind p gens b c.args.list closure closed) found in
    let evens : AreEvenNumbers kind.by_parity c.in-Reached.at_even.items c.in-Reached.at_odd.items c.in_ok-even-in-Reached.even.items =
    even_lent kind.by_parity c.by_parity.result _ _ _ _ _ c.by_parity.ensures c.as_slice-in-Reached.ensures.value
    c.as_slice-in-Reached-2.ensures.value c.in_ok-even-in-Reached.ensures in
    let odds : AreOddNumbers kind.by_parity c.in-Reached.at_odd.items c.in_ok-odd-in-Reached.odd.items =
    odd_lent kind.by_parity c.by_parity-in-Reached.result _ _ _ c.by_parity-in-Reached.ensures c.as_slice-in-Reached-3.ensures.value
    c.in_ok-odd-in-Reached.ensures in
    no_answer a kind b c.args.list found.allowed found.even found.odd c.in-Some.start c.in-Some-find.end c.in-Reached.at_even.items
    c.in-Reached.at_odd.items c.in_ok-even-in-Reached.even.items c.in_ok-odd-in-Reached.odd.items closure.is_kind closure.wide
    (closed_for a kind p gens b c.args.list closure closed) chart start end found.climbs evens odds
