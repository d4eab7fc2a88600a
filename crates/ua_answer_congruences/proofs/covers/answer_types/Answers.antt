use Rattle.std.proofs.Common.{refl, sym, ap, ◌∙◌, subst}
use Rattle.std.proofs.lemmas.Result.{IfOk-weaker}
use Rattle.ua_table.specs.Algebras.{FiniteAlgebra}
use Rattle.ua_type.specs.Permitted.{MayTypes}
use Rattle.ua_reply.specs.Sessions.{bounds_of, lookup}
use Rattle.ua_reply.specs.Checks.{passed}
use Rattle.ua_reply.proofs.Answering.{known_answered}
use Rattle.ua_answer_congruences.specs.TypesCommand.{TypesAnswer}
use Rattle.ua_answer_congruences.proofs.covers.answer_types.Goals as goal

pub returns : goal.returns
returns g c =
    let s = c.args.context.now.session.now in
    let b = bounds_of c.args.context.now.run.now in
    let k = c.in-Some.known.now in
    let known = sym (c.in-Some.ensures ∙ ap (lookup s) c.text.ensures.text) in
    IfOk-weaker c.types_reply.result _ _
    (λ v text. known_answered s c.args.algebra.now (λ k. passed) (λ k. TypesAnswer k b) k v.items known refl (record { answer = c.typed-answer.result; permitted = c.typed-answer.ensures; told = text }))
    c.types_reply.ensures
