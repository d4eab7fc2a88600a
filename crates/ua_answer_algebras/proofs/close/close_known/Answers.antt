use Rattle.std.proofs.Common.{subst}
use Rattle.std.proofs.lemmas.Result.{IfOk-weaker}
use Rattle.ua_table.specs.VectorLists.{VectorList}
use Rattle.ua_close.specs.Answers.{IsCause}
use Rattle.ua_reply.specs.Sessions.{bounds_of}
use Rattle.ua_reply.specs.Operands.{power_of, vectors_of}
use Rattle.ua_answer_algebras.proofs.Refused.{cause_answered}
use Rattle.ua_answer_algebras.proofs.close.close_known.Goals as goal

pub returns : goal.returns
returns g c =
    let run = c.args.context.now.run.now in
    let k = c.args.known.now in
    let p = power_of k c.args.width.value in
    let cause = subst (λ (v : VectorList). IsCause p v.items run.budget c.in-Err.cause) c.in_ok-vectors.ensures.values c.in-Err.ensures.cause in
    IfOk-weaker c.cause_reply.result _ _
    (λ v text. cause_answered k (bounds_of run) p (vectors_of k c.args.gens.now) c.args.mode c.in-Err.cause v.items cause text)
    c.cause_reply.ensures
