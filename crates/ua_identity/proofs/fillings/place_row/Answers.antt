use Rattle.std.proofs.Common.{◌++◌, ◌^◌, ◌<◌, length, sym, ap, ◌∙◌, subst, arith, ℕ}
use Rattle.std.specs.Prelude.{slice_index}
use Rattle.std.specs.List.{AllByRecursion}
use Rattle.ua_term.specs.Assignments.{projection}
use Rattle.ua_identity.specs.Identities.{VariablePattern}
use Rattle.ua_identity.specs.Patterns.{all_fillings}
use Rattle.ua_identity.proofs.RowLaws.{row_narrow, row_more, row_at}
use Rattle.ua_identity.proofs.fillings.place_row.Goals as goal

pub append_values-requires-clause-narrow : goal.append_values-requires-clause-narrow
append_values-requires-clause-narrow g c =
    let f = g.P.Patterned.pattern_of in
    let low = row_narrow f c.args.size c.args.list.now c.loop-item.item-index c.item-item.result c.loop-item-test.true c.item-item.is in
    let same = ap (λ (k : ℕ). c.args.size ^ k) (c.variables.ensures.variables ∙ ap (λ (p : VariablePattern). p.variables) c.pattern-pattern.ensures) in
    let each = ap (λ ps. length (all_fillings c.args.size ps)) (g.met.P.Patterned.each c.args.list.now) in
    let all = c.requires.narrow in
    omega (arith, low, same, each, all)

pub variable-requires : goal.variable-requires
variable-requires g c =
    let xs = c.args.list.now in
    let P = λ (p : VariablePattern). c.args.place < length p.places in
    subst P (sym c.pattern-pattern.ensures)
    (row_at g.P.Patterned.pattern_of c.args.size xs c.loop-item.item-index c.item-item.result c.loop-item-test.true c.item-item.is P
    (subst (AllByRecursion P) (g.met.P.Patterned.each xs) c.requires.place))

pub loop-item-preserved : goal.loop-item-preserved
loop-item-preserved g c =
    let xs = c.args.list.now in
    let j = c.args.place in
    let pattern = c.pattern-pattern.ensures in
    let places = subst (AllByRecursion (λ (p : VariablePattern). j < length p.places)) (g.met.P.Patterned.each xs) c.requires.place in
    c.in_ok-append_values.ensures
    ∙
    (λ i.
    c.loop-item.invariant i
    ++ projection c.args.size ((c.variables.ensures.variables ∙ ap (λ (p : VariablePattern). p.variables) pattern) i)
    ((c.variable.ensures.variable ∙ ap (λ (p : VariablePattern). slice_index p.places j) pattern) i))
    ∙ sym (row_more g.P.Patterned.pattern_of c.args.size xs c.loop-item.item-index c.item-item.result c.loop-item-test.true c.item-item.is j places)
