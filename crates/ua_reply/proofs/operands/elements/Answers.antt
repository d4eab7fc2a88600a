use Rattle.std.proofs.Common.{◌≡◌, ◌<◌, List, ℕ, map, sym, ap, ◌∙◌, subst, arith}
use Rattle.std.proofs.lemmas.Grind.{common_steps}
use Rattle.std.specs.List.{AllByRecursion}
use Rattle.ua_operands.specs.declared.written.Entry.{Entry}
use Rattle.ua_reply.specs.Checks.{Passes}
use Rattle.ua_reply.specs.Operands.{value_of, element_in, elements_in}
use Rattle.ua_reply.proofs.CheckLaws.{one_passes}
use Rattle.ua_reply.proofs.OperandLaws.{values_below}
use Rattle.ua_reply.proofs.operands.elements.Goals as goal

pub element-requires : goal.element-requires
element-requires c =
    let k = c.args.known.now in
    let passed = subst (λ (es : List Entry). Passes (elements_in k es)) (sym c.as_slice-entries.ensures) c.requires.passed in
    one_passes (element_in k) c.as_slice-entries.result.now c.loop-entry.entry-index c.entry-item.result passed c.loop-entry-test.true c.entry-item.is

pub returns-clause-values : goal.returns-clause-values
returns-clause-values c =
    let k = c.args.known.now in
    let e : c.loop-entry.row.items ≡ map (value_of k) c.as_slice-entries.result.now = grind (arith, common_steps) in
    e ∙ ap (λ (es : List Entry). map (value_of k) es) c.as_slice-entries.ensures

pub returns-clause-below : goal.returns-clause-below
returns-clause-below c =
    let k = c.args.known.now in
    let e : c.loop-entry.row.items ≡ map (value_of k) c.as_slice-entries.result.now = grind (arith, common_steps) in
    subst (λ (v : List ℕ). AllByRecursion (λ x. x < k.algebra.size) v) (sym (e ∙ ap (λ (es : List Entry). map (value_of k) es) c.as_slice-entries.ensures)) (values_below k c.args.v.now.values c.requires.passed)
