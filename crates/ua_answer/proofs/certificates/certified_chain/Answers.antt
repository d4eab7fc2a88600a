use Rattle.std.proofs.Common.{subst}
use Rattle.std.proofs.lemmas.Result.{IfOk-weaker}
use Rattle.ua_chain.specs.Permitted.{MayChain}
use Rattle.ua_check.specs.Chains.{kind_of}
use Rattle.ua_reply.specs.Sessions.{bounds_of}
use Rattle.ua_answer.proofs.Certifying.{chain_certified}
use Rattle.ua_answer.proofs.certificates.certified_chain.Goals as goal

pub returns : goal.returns
returns g c =
    let run = c.args.context.now.run.now in
    let k = c.args.known.now in
    let name = c.args.name in
    let certificate = c.in_ok-certificate.ensures in
    let permitted = subst (MayChain k.algebra (kind_of name) run.budget run.workers) c.in-Ok.is c.requires in
    IfOk-weaker c.certificate_line.result _ _
    (λ v text. chain_certified k (bounds_of run) name c.algebra.result.now c.in-Ok.answer c.in_ok-certificate.certificate v.items
    c.algebra.ensures run.some_budget permitted certificate.certificate certificate.flawless text)
    c.certificate_line.ensures
