use Rattle.std.proofs.Common.{subst}
use Rattle.std.proofs.lemmas.Result.{IfOk-weaker}
use Rattle.ua_table.specs.Algebras.{FiniteAlgebra}
use Rattle.ua_comm.specs.Permitted.{MayCommute}
use Rattle.ua_reply.specs.Sessions.{bounds_of}
use Rattle.ua_answer_congruences.specs.Congruences.{OfCongruence}
use Rattle.ua_answer_congruences.specs.inner.Operands.{IsOperand}
use Rattle.ua_answer_congruences.specs.CommCommand.{CommSays}
use Rattle.ua_answer_congruences.proofs.OperandLaws.{of_congruence, of_refused}
use Rattle.ua_answer_congruences.proofs.commutators.comm_known.Goals as goal

pub returns-in-Refused-2 : goal.returns-in-Refused-2
returns-in-Refused-2 g c =
    let run = c.args.context.now.run.now in
    let k = c.args.known.now in
    let b = bounds_of run in
    let alpha = c.args.alpha.now in
    let beta = c.args.beta.now in
    let first = c.in-Congruence.part in
    let one = subst (IsOperand k alpha) c.in-Congruence.is c.in_ok-part.ensures in
    let two = subst (IsOperand k beta) c.in-Refused-2.is c.in_ok-part-2.ensures in
    of_congruence k alpha (λ p. OfCongruence k beta (CommSays k b p)) first c.in-Refused-2.reply.items one.0 one.1
    (of_refused k beta (CommSays k b first) c.in-Refused-2.reply.items two)

pub returns : goal.returns
returns g c =
    let run = c.args.context.now.run.now in
    let k = c.args.known.now in
    let b = bounds_of run in
    let alpha = c.args.alpha.now in
    let beta = c.args.beta.now in
    let first = c.in-Congruence.part in
    let second = c.in-Congruence-2.part in
    let answer = c.commutator-answer.result in
    let one = subst (IsOperand k alpha) c.in-Congruence.is c.in_ok-part.ensures in
    let two = subst (IsOperand k beta) c.in-Congruence-2.is c.in_ok-part-2.ensures in
    let permitted = subst (λ (a : FiniteAlgebra). MayCommute a first second b.budget answer) c.algebra.ensures c.commutator-answer.ensures.permitted in
    IfOk-weaker c.comm_reply.result _ _
    (λ v text. of_congruence k alpha (λ p. OfCongruence k beta (CommSays k b p)) first v.items one.0 one.1
    (of_congruence k beta (CommSays k b first) second v.items two.0 two.1 (record { answer = answer; permitted = permitted; told = text })))
    c.comm_reply.ensures
