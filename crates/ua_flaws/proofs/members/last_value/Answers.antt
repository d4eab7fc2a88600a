use Rattle.std.proofs.Common.{◌≡◌, ◌-◌, ◌<◌, [], length, get_or, sym, ap, ◌∙◌, arith}
use Rattle.std.proofs.lemmas.List.{length-map, get_or-map}
use Rattle.std.proofs.lemmas.Option.{get_or_from_slice_get}
use Rattle.ua_table.specs.Algebras.{arities}
use Rattle.ua_table.specs.Terms.{Generator, term_value}
use Rattle.ua_table.specs.VectorLists.{VectorList}
use Rattle.ua_term.specs.Steps.{StepList, unfolded, step_values}
use Rattle.ua_term.proofs.StepLaws.{length_values}
use Rattle.ua_flaws.proofs.members.last_value.Goals as goal

pub get-requires : goal.get-requires
get-requires c =
    let items : c.in_ok-vectors.vectors.items ≡ step_values c.args.frame.now c.args.gens.now.items c.args.steps.items
    = ap (λ (v : VectorList). v.items) c.in_ok-vectors.ensures.values ∙ ap (λ (s : StepList). step_values c.args.frame.now c.args.gens.now.items s.items) c.in-Ok.ensures.ok in
    let n = length_values c.args.frame.now c.args.gens.now.items c.args.steps.items in
    let l = c.len.ensures in let o = c.args.steps.ok.0 in let s = c.requires.some in
    omega (arith, ap length items, n)

pub returns-clause-value : goal.returns-clause-value
returns-clause-value c =
    let p = c.args.frame.now in let gens = c.args.gens.now.items in let steps = c.args.steps.items in
    let items : c.in_ok-vectors.vectors.items ≡ step_values p gens steps
    = ap (λ (v : VectorList). v.items) c.in_ok-vectors.ensures.values ∙ ap (λ (s : StepList). step_values p gens s.items) c.in-Ok.ensures.ok in
    let last : c.len.result - 1 ≡ length steps - 1 = (let l = c.len.ensures in let o = c.args.steps.ok.0 in omega arith) in
    let n = length_values p gens steps in
    let terms = length-map (unfolded (arities p) steps) (term_value p gens) in
    let some = c.requires.some in
    let low : length steps - 1 < length (unfolded (arities p) steps) = omega (arith, n, terms) in
    c.in_ok-from_slice.ensures.items
    ∙ sym (get_or_from_slice_get c.in_ok-vectors.vectors.items (c.len.result - 1) c.get.result.now [] c.get.ensures.vector)
    ∙ ap (λ vs. get_or vs (c.len.result - 1) []) items
    ∙ ap (λ k. get_or (step_values p gens steps) k []) last
    ∙ get_or-map (term_value p gens) (unfolded (arities p) steps) (length steps - 1) (Generator 0) [] low
