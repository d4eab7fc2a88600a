use Rattle.std.proofs.Common.{subst}
use Rattle.std.proofs.lemmas.Result.{IfOk-weaker}
use Rattle.ua_cond.specs.Permitted.{MayDecide}
use Rattle.ua_check.specs.Conditions.{condition_of}
use Rattle.ua_reply.specs.Sessions.{bounds_of}
use Rattle.ua_answer.proofs.Certifying.{condition_certified}
use Rattle.ua_answer.proofs.certificates.certified_condition.Goals as goal

pub returns : goal.returns
returns g c =
    let run = c.args.context.now.run.now in
    let k = c.args.known.now in
    let name = c.args.name in
    let places = c.args.places in
    let certificate = c.in_ok-certificate.ensures in
    let permitted = subst (MayDecide k.algebra (condition_of name places) run.budget run.workers) c.in-Ok.is c.requires.permitted in
    IfOk-weaker c.certificate_line.result _ _
    (λ v text. condition_certified k (bounds_of run) name places c.algebra.result.now c.in-Ok.answer c.in_ok-certificate.certificate v.items
    c.algebra.ensures run.some_budget c.requires.places permitted certificate.certificate certificate.flawless text)
    c.certificate_line.ensures
