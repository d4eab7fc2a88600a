use Rattle.std.proofs.Common.{◌≡◌, length, replicate, sym, ◌∙◌, subst}
use Rattle.std.specs.Prelude.{IfErr, IfOk}
use Rattle.ua_table.specs.Algebras.{Product}
use Rattle.ua_close.specs.Answers.{IsCause}
use Rattle.ua_identity.specs.Patterns.{argument_vectors}
use Rattle.ua_identity.proofs.ConditionLaws.{length-argument_vectors}
use Rattle.ua_cond.proofs.FrameLaws.{width_is, coordinates}
use Rattle.ua_cond.proofs.frames.power.Goals as goal

pub returns-clause-frame : goal.returns-clause-frame
returns-clause-frame c =
    let a = c.args.a.now in
    let k = c.args.condition.now in
    let width : c.width.result ≡ coordinates a k = c.width.ensures.width ∙ width_is a k in
    subst (λ n. IfOk c.power_within.result (λ (p : Product). p ≡ replicate n a)) width c.power_within.ensures.frame

pub returns-clause-cause : goal.returns-clause-cause
returns-clause-cause c =
    let a = c.args.a.now in
    let k = c.args.condition.now in
    let width : c.width.result ≡ coordinates a k = c.width.ensures.width ∙ width_is a k in
    let places : length (argument_vectors a k) ≡ c.from.result = length-argument_vectors a k ∙ sym (c.from.ensures ∙ c.arity.ensures.arity) in
    subst (λ n. IfErr c.power_within.result (IsCause (replicate n a) (argument_vectors a k) c.args.budget)) width (c.power_within.ensures.cause (argument_vectors a k) places)
