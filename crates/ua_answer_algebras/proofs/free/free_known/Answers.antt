use Rattle.std.proofs.Common.{subst}
use Rattle.std.proofs.lemmas.Result.{IfOk-weaker}
use Rattle.ua_table.specs.Algebras.{FiniteAlgebra}
use Rattle.ua_term.specs.Assignments.{projections, power_of_assignments}
use Rattle.ua_close.specs.Answers.{IsCause}
use Rattle.ua_reply.specs.Sessions.{bounds_of}
use Rattle.ua_answer_algebras.proofs.Refused.{cause_answered}
use Rattle.ua_answer_algebras.proofs.free.free_known.Goals as goal

pub returns-in-Err : goal.returns-in-Err
returns-in-Err g c =
    let run = c.args.context.now.run.now in
    let k = c.args.known.now in
    let n = c.args.count.value in
    let cause = subst (λ (a : FiniteAlgebra). IsCause (power_of_assignments a n) (projections a.size n) run.budget c.in-Err.cause) c.algebra.ensures c.in-Err.ensures.cause in
    IfOk-weaker c.cause_reply.result _ _
    (λ v text. cause_answered k (bounds_of run) (power_of_assignments k.algebra n) (projections k.algebra.size n) c.args.mode c.in-Err.cause v.items cause text)
    c.cause_reply.ensures
