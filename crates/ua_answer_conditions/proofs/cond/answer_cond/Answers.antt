use Rattle.std.proofs.Common.{refl, sym, ap, ◌∙◌}
use Rattle.std.proofs.lemmas.Result.{IfOk-weaker}
use Rattle.ua_reply.specs.Sessions.{bounds_of, lookup}
use Rattle.ua_reply.specs.Checks.{passed}
use Rattle.ua_reply.proofs.Answering.{known_answered}
use Rattle.ua_answer_conditions.specs.CondCommand.{condition_of, ConditionAnswer}
use Rattle.ua_answer_conditions.proofs.cond.answer_cond.Goals as goal

pub returns : goal.returns
returns g c =
    let s = c.args.context.now.session.now in
    let b = bounds_of c.args.context.now.run.now in
    let k = c.in-Some.known.now in
    let condition = condition_of c.args.name in
    let known = sym (c.in-Some.ensures ∙ ap (lookup s) c.text.ensures.text) in
    IfOk-weaker c.member_reply.result _ _
    (λ v text. known_answered s c.args.algebra.now (λ k. passed) (λ k. ConditionAnswer k b condition) k v.items known refl (record { answer = c.decide_named-answer.result; permitted = c.decide_named-answer.ensures; told = text }))
    c.member_reply.ensures
