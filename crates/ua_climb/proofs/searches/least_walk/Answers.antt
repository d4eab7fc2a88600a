use Rattle.std.proofs.Common.{◌+◌, ◌<◌, length, sym, ap, ◌∙◌, subst, arith, List, ℕ, Option, map}
use Rattle.std.specs.Prelude.{is_some}
use Rattle.std.specs.List.{AllByRecursion}
use Rattle.ua_climb.specs.inner.Marks.{IsLine, IsTrail}
use Rattle.ua_climb.proofs.SearchLaws.{search_begins, search_goes, search_finds, search_ends, least_from_nearest, frontier_within, line_from_trail, nonempty, empty, unequal, level_opens, ends_within, marked_lent, marked_back}
use Rattle.ua_climb.proofs.searches.least_walk.Goals as goal

pub loop-marks-init : goal.loop-marks-init
loop-marks-init c =
    search_begins c.args.network.now c.args.start c.args.ends.now _ _ _ c.in_ok-marks.ensures.begun c.in_ok-frontier.ensures.items c.requires.start
    (λ w. unequal _ _ (c.if-contains.ensures.cases w.0 c.args.start (omega arith) w.1) w.2)

pub next_level-requires-clause-frontier : goal.next_level-requires-clause-frontier
next_level-requires-clause-frontier c =
    subst (AllByRecursion (λ s. s < length c.args.network.now.leads)) (sym c.as_slice.ensures.value) (frontier_within c.args.network.now c.args.start c.args.ends.now c.loop-marks.level _ _ _ c.loop-marks.invariant)

pub overflow_add-level : goal.overflow_add-level
overflow_add-level c =
    let i = c.loop-marks.invariant.count in
    let some = nonempty _ c.loop-marks-test.ensures in
    let few = c.in_ok-marks.ensures.few in
    omega (arith, i, some, few)

pub first_marked-requires : goal.first_marked-requires
first_marked-requires c = ends_within c.args.network.now c.args.ends.now _ _ c.requires.ends c.as_slice-in-loop-marks.ensures.value (c.in_ok-frontier-2.ensures.states ∙ c.loop-marks.invariant.states)

pub walk_back-requires : goal.walk_back-requires
walk_back-requires c =
    let found = c.in-Some.ensures.found in
    let opens = level_opens c.args.network.now c.as_slice.result.now c.loop-marks.frontier.items _ _ _ _ _ c.as_slice.ensures.value c.in_ok-frontier-2.ensures in
    let near = search_finds c.args.network.now c.args.start c.args.ends.now c.loop-marks.level _ _ _ _ _ _ c.in-Some.end c.loop-marks.invariant opens found.0 (marked_lent _ _ c.in-Some.end c.as_slice-in-loop-marks.ensures.value found.1) in
    subst (λ (f : List (Option ℕ)). IsLine f c.in-Some.end (c.loop-marks.level + 1)) (sym c.as_slice-in-Some.ensures.value) (line_from_trail c.args.network.now _ c.args.start c.in-Some.end _ near.trail)

pub returns-in-Some : goal.returns-in-Some
returns-in-Some c =
    let found = c.in-Some.ensures.found in
    let opens = level_opens c.args.network.now c.as_slice.result.now c.loop-marks.frontier.items _ _ _ _ _ c.as_slice.ensures.value c.in_ok-frontier-2.ensures in
    let near = search_finds c.args.network.now c.args.start c.args.ends.now c.loop-marks.level _ _ _ _ _ _ c.in-Some.end c.loop-marks.invariant opens found.0 (marked_lent _ _ c.in-Some.end c.as_slice-in-loop-marks.ensures.value found.1) in
    let walked = c.in_ok-walk.ensures in
    let trail = subst (λ (f : List (Option ℕ)). IsTrail c.args.network.now f c.args.start c.in-Some.end (c.loop-marks.level + 1)) (sym c.as_slice-in-Some.ensures.value) near.trail in
    least_from_nearest c.args.network.now c.args.start c.args.ends.now _ c.in-Some.end _ _ near found.0 (walked.walk c.args.network.now c.args.start trail) walked.count

pub loop-marks-preserved : goal.loop-marks-preserved
loop-marks-preserved c =
    let opens = level_opens c.args.network.now c.as_slice.result.now c.loop-marks.frontier.items _ _ _ _ _ c.as_slice.ensures.value c.in_ok-frontier-2.ensures in
    search_goes c.args.network.now c.args.start c.args.ends.now c.loop-marks.level _ _ _ _ _ _ c.loop-marks.invariant opens
    (omega (arith, nonempty _ c.loop-marks-test.ensures))
    (λ t d m. c.in_default.ensures.none t d (marked_back _ _ t c.as_slice-in-loop-marks.ensures.value m))

pub returns : goal.returns
returns c =
    search_ends c.args.network.now c.args.start c.args.ends.now c.loop-marks.level _ _ _ _ c.loop-marks.invariant
    (omega (arith, empty _ c.loop-marks-test.ensures)) (c.in_ok-reached.ensures ∙ ap (map is_some) c.as_slice-2.ensures.value)
