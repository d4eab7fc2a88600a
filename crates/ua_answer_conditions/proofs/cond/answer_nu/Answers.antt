use Rattle.std.proofs.Common.{sym, ap, ◌∙◌}
use Rattle.std.proofs.lemmas.Result.{IfOk-weaker}
use Rattle.ua_identity.specs.Conditions.{near_unanimity}
use Rattle.ua_reply.specs.Sessions.{bounds_of, lookup}
use Rattle.ua_reply.proofs.Answering.{known_answered}
use Rattle.ua_answer_conditions.specs.CondCommand.{nu_checks, ConditionAnswer}
use Rattle.ua_answer_conditions.proofs.cond.answer_nu.Goals as goal

pub near_unanimous-answer-requires-after_bounds : goal.near_unanimous-answer-requires-after_bounds
near_unanimous-answer-requires-after_bounds g c = λ κs bounds. c.in_default-refusal.ensures.none (nu_checks c.args.k) c.variables_of.ensures

pub returns : goal.returns
returns g c =
    let s = c.args.context.now.session.now in
    let b = bounds_of c.args.context.now.run.now in
    let k = c.in-Some.known.now in
    let known = sym (c.in-Some.ensures ∙ ap (lookup s) c.text.ensures.text) in
    let none = sym (c.in_default-refusal.ensures.first (nu_checks c.args.k) c.variables_of.ensures) in
    IfOk-weaker c.member_reply.result _ _
    (λ v text. known_answered s c.args.algebra.now (λ known. nu_checks c.args.k) (λ known. ConditionAnswer known b (near_unanimity c.args.k.value))
    k v.items known none (record { answer = c.near_unanimous-answer.result; permitted = c.near_unanimous-answer.ensures; told = text }))
    c.member_reply.ensures
