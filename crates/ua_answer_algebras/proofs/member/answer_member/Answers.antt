use Rattle.std.proofs.Common.{sym, ap, ◌∙◌}
use Rattle.std.proofs.lemmas.Result.{IfOk-weaker}
use Rattle.ua_reply.specs.Sessions.{bounds_of, lookup}
use Rattle.ua_reply.specs.Checks.{◌and◌}
use Rattle.ua_reply.specs.Operands.{values_of, vectors_of, positive, vector_in, vectors_in}
use Rattle.ua_reply.proofs.Answering.{known_answered}
use Rattle.ua_answer_algebras.specs.MemberCommand.{member_checks, MemberAnswer}
use Rattle.ua_answer_algebras.proofs.member.answer_member.Goals as goal

pub membership-answer-requires-clause-width : goal.membership-answer-requires-clause-width
membership-answer-requires-clause-width g c κs within =
    let w = positive c.args.width in
    let vs = vectors_in c.in-Some.known.now c.args.width.value c.args.gens.now in
    let t = vector_in c.in-Some.known.now c.args.width.value c.args.target.now in
    let first = c.and-errors.ensures.first (w and vs) t (c.and.ensures.first w vs c.positive.ensures c.vectors_in.ensures) c.vector_in.ensures in
    let passes = c.in_default-refusal.ensures.none (w and vs and t) first in
    (c.and.ensures.each w vs (c.and-errors.ensures.each (w and vs) t passes).0).0

pub membership-answer-requires-clause-gens : goal.membership-answer-requires-clause-gens
membership-answer-requires-clause-gens g c κs within =
    let w = positive c.args.width in
    let vs = vectors_in c.in-Some.known.now c.args.width.value c.args.gens.now in
    let t = vector_in c.in-Some.known.now c.args.width.value c.args.target.now in
    let first = c.and-errors.ensures.first (w and vs) t (c.and.ensures.first w vs c.positive.ensures c.vectors_in.ensures) c.vector_in.ensures in
    let passes = c.in_default-refusal.ensures.none (w and vs and t) first in
    (c.and.ensures.each w vs (c.and-errors.ensures.each (w and vs) t passes).0).1

pub membership-answer-requires-clause-target : goal.membership-answer-requires-clause-target
membership-answer-requires-clause-target g c κs within =
    let w = positive c.args.width in
    let vs = vectors_in c.in-Some.known.now c.args.width.value c.args.gens.now in
    let t = vector_in c.in-Some.known.now c.args.width.value c.args.target.now in
    let first = c.and-errors.ensures.first (w and vs) t (c.and.ensures.first w vs c.positive.ensures c.vectors_in.ensures) c.vector_in.ensures in
    let passes = c.in_default-refusal.ensures.none (w and vs and t) first in
    (c.and-errors.ensures.each (w and vs) t passes).1

pub returns : goal.returns
returns g c =
    let s = c.args.context.now.session.now in
    let b = bounds_of c.args.context.now.run.now in
    let k = c.in-Some.known.now in
    let known = sym (c.in-Some.ensures ∙ ap (lookup s) c.text.ensures.text) in
    let w = positive c.args.width in
    let vs = vectors_in k c.args.width.value c.args.gens.now in
    let t = vector_in k c.args.width.value c.args.target.now in
    let first = c.and-errors.ensures.first (w and vs) t (c.and.ensures.first w vs c.positive.ensures c.vectors_in.ensures) c.vector_in.ensures in
    let none = sym (c.in_default-refusal.ensures.first (w and vs and t) first) in
    IfOk-weaker c.member_reply.result _ _
    (λ v text. known_answered s c.args.algebra.now (λ k. member_checks k c.args.width c.args.gens.now c.args.target.now) (λ k. MemberAnswer k b c.args.width.value (vectors_of k c.args.gens.now) (values_of k c.args.target.now))
    k v.items known none (record { answer = c.membership-answer.result; permitted = c.membership-answer.ensures; told = text }))
    c.member_reply.ensures
