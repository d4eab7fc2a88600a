use Rattle.std.proofs.Common.{Ok, subst}
use Rattle.ua_close.specs.declared.close.Closure.{Closure}
use Rattle.ua_close.specs.Permitted.{MayClose}
use Rattle.ua_answer_algebras.proofs.closing.least_closure.Goals as goal

pub returns-in_ok-rows-in-Closed : goal.returns-in_ok-rows-in-Closed
returns-in_ok-rows-in-Closed g c =
    let p = c.args.frame.now in
    let gens = c.args.gens.now.items in
    let run = c.args.context.now.run.now in
    let may = subst (λ (closure : Closure). MayClose p gens run.budget run.workers (Ok closure)) c.in-Closed.is c.in_ok-rows.ensures.permitted in
    (may.0, c.in_ok-rows-in-Closed.ensures run.budget may.1)
