use Rattle.std.proofs.Common.{◌≡◌, length, subst, ap, ◌∙◌, map, take, drop, List, ℕ}
use Rattle.ua_climb.specs.declared.searches.Found.TheVariants.{Reached}
use Rattle.ua_climb.specs.inner.Answers.{TellsWalk}
use Rattle.ua_climb.specs.inner.Networks.{IsLeastWalk, HasNoWalk}
use Rattle.ua_climb.specs.Sides.{row_of}
use Rattle.std.proofs.Common.{arith}
use Rattle.std.proofs.lemmas.Grind.{common_steps}
use Rattle.ua_climb.proofs.ClimbLaws.{IsSetting, least_from_walk, none_from_walks}
use Rattle.ua_climb.proofs.ladders.least_climb.Goals as goal

pub returns-in-Walk : goal.returns-in-Walk
returns-in-Walk c =
    let g = c.in_ok-network.network in
    let n = length c.args.allowed.now in
    let setting : IsSetting c.args.allowed.now c.args.even.now c.args.odd.now g =
    record {
      of_links = c.in_ok-network.ensures.network;
      even_links = c.in_ok-network.ensures.even_links;
      odd_links = c.in_ok-network.ensures.odd_links;
      even_rows = c.requires.even_rows;
      odd_rows = c.requires.odd_rows;
    } in
    let walk : IsLeastWalk g c.args.start c.as_slice.result.now c.in-Walk.states.items = subst (TellsWalk g c.args.start c.as_slice.result.now) c.in-Walk.is c.in_ok-states.ensures in
    let least = subst (λ (ends : List ℕ). IsLeastWalk g c.args.start ends c.in-Walk.states.items) c.as_slice.ensures walk in
    let rows : c.in_ok-found-in-Walk.found.items ≡ map (λ s. row_of n s) c.in-Walk.states.items = c.in_ok-found-in-Walk.ensures ∙ ap (map (λ s. row_of n s)) c.as_slice-in-Walk.ensures.value in
    least_from_walk c.args.allowed.now c.args.even.now c.args.odd.now g c.args.start c.args.end c.in-Walk.states.items _ setting c.requires.start c.requires.end least rows

pub returns : goal.returns
returns c =
    let g = c.in_ok-network.network in
    let n = length c.args.allowed.now in
    let setting : IsSetting c.args.allowed.now c.args.even.now c.args.odd.now g =
    record {
      of_links = c.in_ok-network.ensures.network;
      even_links = c.in_ok-network.ensures.even_links;
      odd_links = c.in_ok-network.ensures.odd_links;
      even_rows = c.requires.even_rows;
      odd_rows = c.requires.odd_rows;
    } in
    let same : c.in_ok-states.field-0 ≡ Reached c.in-Reached.marks = c.in-Reached.is in
    let none : HasNoWalk g c.args.start c.as_slice.result.now c.in-Reached.marks.items = subst (TellsWalk g c.args.start c.as_slice.result.now) same c.in_ok-states.ensures in
    let walks = subst (λ (ends : List ℕ). HasNoWalk g c.args.start ends c.in-Reached.marks.items) c.as_slice.ensures none in
    let evens : c.in_ok-at_even-in-Reached.at_even.items ≡ take n c.in-Reached.marks.items = c.in_ok-at_even-in-Reached.ensures.items_if_clones_equal (λ x y e. e) ∙ ap (take n) c.as_slice-in-Reached.ensures.value in
    let odds : c.in_ok-at_odd-in-Reached.at_odd.items ≡ drop n c.in-Reached.marks.items = grind (arith, common_steps) in
    none_from_walks c.args.allowed.now c.args.even.now c.args.odd.now g c.args.start c.args.end c.in-Reached.marks.items _ _ setting c.requires.start walks evens odds
