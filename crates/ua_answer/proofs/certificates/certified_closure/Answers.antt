use Rattle.std.proofs.Common.{◌≤◌, subst}
use Rattle.std.proofs.lemmas.Result.{IfOk-weaker}
use Rattle.ua_table.specs.declared.limits.TheConstants.{WIDTH}
use Rattle.ua_table.specs.VectorLists.{VectorList}
use Rattle.ua_close.specs.Answers.{IsCause}
use Rattle.ua_close.specs.Permitted.{MayClose}
use Rattle.ua_certify.specs.Certified.{closure_certificate}
use Rattle.ua_reply.specs.Sessions.{bounds_of}
use Rattle.ua_reply.specs.Operands.{power_of, vectors_of}
use Rattle.ua_answer.proofs.Certifying.{cause_certified, closure_certified}
use Rattle.ua_answer.proofs.certificates.certified_closure.Goals as goal

pub returns-in-Err : goal.returns-in-Err
returns-in-Err g c =
    let run = c.args.context.now.run.now in
    let k = c.args.known.now in
    let p = power_of k c.args.width.value in
    let gens = vectors_of k c.args.gens.now in
    let cause = subst (λ (v : VectorList). IsCause p v.items run.budget c.in-Err.cause) c.in_ok-vectors.ensures.values c.in-Err.ensures.cause in
    IfOk-weaker c.cause_reply.result _ _
    (λ v text. cause_certified k.algebra run.budget (MayClose p gens run.budget run.workers) (closure_certificate k.algebra c.args.width.value gens) c.in-Err.cause v.items cause text)
    c.cause_reply.ensures

pub returns : goal.returns
returns g c =
    let run = c.args.context.now.run.now in
    let k = c.args.known.now in
    let a = c.algebra-algebra in
    let vectors = c.in_ok-vectors in
    let small = subst (λ n. n ≤ WIDTH) c.width-width.ensures.width c.width-width.ensures.small in
    let cert = c.in_ok-certificate in
    IfOk-weaker c.certificate_line.result _ _
    (λ v text. closure_certified k (bounds_of run) c.args.width c.args.gens.now a.result.now c.in-Ok.frame vectors.vectors c.in-Ok-close_set.closure cert.certificate v.items
    a.ensures c.in-Ok.ensures.ok vectors.ensures.values c.width-width.ensures.product small vectors.ensures.admitted c.in-Ok-close_set.ensures.permitted
    cert.ensures.certificate cert.ensures.flawless text)
    c.certificate_line.ensures
