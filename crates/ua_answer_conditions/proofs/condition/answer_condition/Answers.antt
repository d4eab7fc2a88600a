use Rattle.std.proofs.Common.{sym, ap, ◌∙◌}
use Rattle.std.proofs.lemmas.Result.{IfOk-weaker}
use Rattle.ua_reply.specs.Sessions.{bounds_of, lookup}
use Rattle.ua_reply.specs.Checks.{all_in}
use Rattle.ua_reply.proofs.Answering.{known_answered}
use Rattle.ua_answer_conditions.specs.CondCommand.{ConditionAnswer}
use Rattle.ua_answer_conditions.specs.ConditionCommand.{condition_of, arity_in, identity_in, condition_checks}
use Rattle.ua_answer_conditions.proofs.condition.answer_condition.Goals as goal

pub decided-answer-requires-clause-checks : goal.decided-answer-requires-clause-checks
decided-answer-requires-clause-checks g c κs within =
    let k = c.args.arity in
    let is = c.args.identities.now in
    c.in_default-refusal.ensures.none (condition_checks k is) (c.and-errors.ensures.first (arity_in k) (all_in (identity_in k) is) c.arity_in.ensures c.identities_in.ensures)

pub returns : goal.returns
returns g c =
    let s = c.args.context.now.session.now in
    let b = bounds_of c.args.context.now.run.now in
    let known = sym (c.in-Some.ensures ∙ ap (lookup s) c.text.ensures.text) in
    let k = c.args.arity in
    let is = c.args.identities.now in
    let none = sym (c.in_default-refusal.ensures.first (condition_checks k is) (c.and-errors.ensures.first (arity_in k) (all_in (identity_in k) is) c.arity_in.ensures c.identities_in.ensures)) in
    IfOk-weaker c.member_reply.result _ _
    (λ v text. known_answered s c.args.algebra.now (λ known. condition_checks k is) (λ known. ConditionAnswer known b (condition_of k is))
    c.in-Some.known.now v.items known none (record { answer = c.decided-answer.result; permitted = c.decided-answer.ensures; told = text }))
    c.member_reply.ensures
