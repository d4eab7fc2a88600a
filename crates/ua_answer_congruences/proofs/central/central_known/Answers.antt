use Rattle.std.proofs.Common.{subst}
use Rattle.std.proofs.lemmas.Result.{IfOk-weaker}
use Rattle.ua_table.specs.Algebras.{FiniteAlgebra}
use Rattle.ua_matrix.specs.Permitted.{MayBeCentral}
use Rattle.ua_reply.specs.Sessions.{bounds_of}
use Rattle.ua_answer_congruences.specs.Congruences.{OfCongruence}
use Rattle.ua_answer_congruences.specs.inner.Operands.{IsOperand}
use Rattle.ua_answer_congruences.specs.CentralCommand.{CentralSays}
use Rattle.ua_answer_congruences.proofs.OperandLaws.{of_congruence, of_refused}
use Rattle.ua_answer_congruences.proofs.central.central_known.Goals as goal

pub returns-in-Refused-2 : goal.returns-in-Refused-2
returns-in-Refused-2 g c =
    let run = c.args.context.now.run.now in
    let k = c.args.known.now in
    let b = bounds_of run in
    let alpha = c.args.alpha.now in
    let beta = c.args.beta.now in
    let delta = c.args.delta.now in
    let first = c.in-Congruence.part in
    let one = subst (IsOperand k alpha) c.in-Congruence.is c.in_ok-part.ensures in
    let two = subst (IsOperand k beta) c.in-Refused-2.is c.in_ok-part-2.ensures in
    of_congruence k alpha (λ p. OfCongruence k beta (λ q. OfCongruence k delta (CentralSays k b p q))) first c.in-Refused-2.reply.items one.0 one.1
    (of_refused k beta (λ q. OfCongruence k delta (CentralSays k b first q)) c.in-Refused-2.reply.items two)

pub returns-in-Refused-3 : goal.returns-in-Refused-3
returns-in-Refused-3 g c =
    let run = c.args.context.now.run.now in
    let k = c.args.known.now in
    let b = bounds_of run in
    let alpha = c.args.alpha.now in
    let beta = c.args.beta.now in
    let delta = c.args.delta.now in
    let first = c.in-Congruence.part in
    let second = c.in-Congruence-2.part in
    let one = subst (IsOperand k alpha) c.in-Congruence.is c.in_ok-part.ensures in
    let two = subst (IsOperand k beta) c.in-Congruence-2.is c.in_ok-part-2.ensures in
    let three = subst (IsOperand k delta) c.in-Refused-3.is c.in_ok-part-3.ensures in
    of_congruence k alpha (λ p. OfCongruence k beta (λ q. OfCongruence k delta (CentralSays k b p q))) first c.in-Refused-3.reply.items one.0 one.1
    (of_congruence k beta (λ q. OfCongruence k delta (CentralSays k b first q)) second c.in-Refused-3.reply.items two.0 two.1
    (of_refused k delta (CentralSays k b first second) c.in-Refused-3.reply.items three))

pub returns : goal.returns
returns g c =
    let run = c.args.context.now.run.now in
    let k = c.args.known.now in
    let b = bounds_of run in
    let alpha = c.args.alpha.now in
    let beta = c.args.beta.now in
    let delta = c.args.delta.now in
    let first = c.in-Congruence.part in
    let second = c.in-Congruence-2.part in
    let third = c.in-Congruence-3.part in
    let answer = c.central-answer.result in
    let one = subst (IsOperand k alpha) c.in-Congruence.is c.in_ok-part.ensures in
    let two = subst (IsOperand k beta) c.in-Congruence-2.is c.in_ok-part-2.ensures in
    let three = subst (IsOperand k delta) c.in-Congruence-3.is c.in_ok-part-3.ensures in
    let permitted = subst (λ (a : FiniteAlgebra). MayBeCentral a first second third b.budget b.workers answer) c.algebra-algebra.ensures c.central-answer.ensures.permitted in
    IfOk-weaker c.central_reply.result _ _
    (λ v text. of_congruence k alpha (λ p. OfCongruence k beta (λ q. OfCongruence k delta (CentralSays k b p q))) first v.items one.0 one.1
    (of_congruence k beta (λ q. OfCongruence k delta (CentralSays k b first q)) second v.items two.0 two.1
    (of_congruence k delta (CentralSays k b first second) third v.items three.0 three.1 (record { answer = answer; permitted = permitted; told = text }))))
    c.central_reply.ensures
