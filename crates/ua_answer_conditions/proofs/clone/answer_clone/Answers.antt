use Rattle.std.proofs.Common.{sym, ap, ◌∙◌}
use Rattle.std.proofs.lemmas.Result.{IfOk-weaker}
use Rattle.ua_reply.specs.Sessions.{bounds_of, lookup}
use Rattle.ua_reply.proofs.Answering.{known_answered}
use Rattle.ua_answer_conditions.specs.CloneCommand.{kind_of, written_points, clone_checks, CloneAnswer}
use Rattle.ua_answer_conditions.proofs.clone.answer_clone.Goals as goal

pub returns : goal.returns
returns g c =
    let s = c.args.context.now.session.now in
    let b = bounds_of c.args.context.now.run.now in
    let known = sym (c.in-Some.ensures ∙ ap (lookup s) c.text.ensures.text) in
    let k = c.args.k in
    let points = c.args.points.now in
    let none = sym (c.in_default-refusal.ensures.first (clone_checks c.in-Some.known.now k points) c.in_ok-checked.ensures) in
    IfOk-weaker c.member_reply.result _ _
    (λ v text. known_answered s c.args.algebra.now (λ known. clone_checks known k points) (λ known. CloneAnswer known b k.value (kind_of c.args.kind) (written_points known k.value points))
    c.in-Some.known.now v.items known none (record { answer = c.membership-answer.result; permitted = c.membership-answer.ensures; told = text }))
    c.member_reply.ensures
