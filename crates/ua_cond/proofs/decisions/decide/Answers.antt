use Rattle.std.proofs.Common.{◌≡◌, ◌∙◌, subst, Ok}
use Rattle.ua_close.specs.declared.memberships.Answer.TheVariants.{Yes, No}
use Rattle.ua_close.specs.Permitted.{MayMember}
use Rattle.ua_identity.specs.Patterns.{condition_power, argument_vectors, value_vector}
use Rattle.ua_cond.proofs.DecisionLaws.{steps_write, none_meets}
use Rattle.ua_cond.proofs.decisions.decide.Goals as goal

pub returns-in-Yes : goal.returns-in-Yes
returns-in-Yes g c =
    let a = c.args.a.now in
    let k = c.args.condition.now in
    let some = c.size-size.ensures.algebra.algebra.inhabited in
    let is = c.in_ok-frame.ensures.condition in
    let value : c.as_slice.result.now ≡ value_vector a k = c.as_slice.ensures.value ∙ c.in_ok-values.ensures in
    let may : MayMember (condition_power a k) (argument_vectors a k) (value_vector a k) c.args.run.now.budget c.args.run.now.workers (Ok (Yes c.in-Yes.steps)) =
    subst (λ (X : Type 0). X) (λ i. MayMember (c.in_ok-frame.ensures.frame i) (c.in_ok-arguments.ensures.vectors i) (value i) c.args.run.now.budget c.args.run.now.workers (Ok (c.in-Yes.is i))) c.in_ok-steps.ensures.permitted in
    record { permitted = (may, steps_write a k c.in-Yes.steps (λ t. c.conditions.ensures.written a k t some is) may.1) }

pub returns-in-No : goal.returns-in-No
returns-in-No g c =
    let a = c.args.a.now in
    let k = c.args.condition.now in
    let some = c.size-size.ensures.algebra.algebra.inhabited in
    let is = c.in_ok-frame.ensures.condition in
    let value : c.as_slice.result.now ≡ value_vector a k = c.as_slice.ensures.value ∙ c.in_ok-values.ensures in
    let may : MayMember (condition_power a k) (argument_vectors a k) (value_vector a k) c.args.run.now.budget c.args.run.now.workers (Ok (No c.in-No.list)) =
    subst (λ (X : Type 0). X) (λ i. MayMember (c.in_ok-frame.ensures.frame i) (c.in_ok-arguments.ensures.vectors i) (value i) c.args.run.now.budget c.args.run.now.workers (Ok (c.in-No.is i))) c.in_ok-steps.ensures.permitted in
    record { permitted = (may, none_meets a k c.args.run.now.budget c.args.run.now.workers c.in-No.list (c.conditions.ensures.member a k some is) may) }
