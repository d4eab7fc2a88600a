use Rattle.std.proofs.Common.{◌^◌, ap, ◌∙◌, arith, ℕ}
use Rattle.ua_term.proofs.AssignmentLaws.{few_assignments}
use Rattle.ua_identity.specs.declared.limits.TheConstants.{LETTERS}
use Rattle.ua_identity.specs.Identities.{VariablePattern}
use Rattle.ua_identity.proofs.RowLaws.{row_wider}
use Rattle.ua_identity.proofs.fillings.width_of.Goals as goal

pub loop-item-preserved : goal.loop-item-preserved
loop-item-preserved g c =
    let more = row_wider g.P.Patterned.pattern_of c.args.size c.args.list.now c.loop-item.item-index c.item-item.result c.loop-item-test.true c.item-item.is in
    let one = c.assignment_count-width.ensures.count ∙ ap (λ (k : ℕ). c.args.size ^ k) (c.variables.ensures.variables ∙ ap (λ (p : VariablePattern). p.variables) c.pattern.ensures) in
    let so_far = c.loop-item.invariant.width in
    let small = c.loop-item.invariant.small in
    let few = few_assignments c.args.size c.variables.result LETTERS c.requires (let k = c.variables.ensures.pattern.few in omega (arith, k, c.variables.ensures.variables)) in
    record { width = omega (arith, more, one, so_far); small = omega (arith, small, few) }
