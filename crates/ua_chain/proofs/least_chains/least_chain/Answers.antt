use Rattle.std.proofs.Common.{subst, Ok}
use Rattle.ua_close.specs.declared.close.Closure.{Closure}
use Rattle.ua_close.specs.Permitted.{MayClose}
use Rattle.ua_chain.proofs.CallLaws.{may_tell}
use Rattle.ua_chain.proofs.least_chains.least_chain.Goals as goal

pub returns-in-Closed : goal.returns-in-Closed
returns-in-Closed g c =
    let p = c.in_ok-frame.frame in
    let gens = c.in_ok-frame.gens.items in
    let b = c.args.run.now.budget in
    let w = c.args.run.now.workers in
    let may = subst (λ (closure : Closure). MayClose p gens b w (Ok closure)) c.in-Closed.is c.in_ok-list.ensures.permitted in
    let told = c.in_ok-chain_in-in-Closed.ensures in
    record { permitted = may_tell c.args.a.now c.args.kind.now p gens b w c.in-Closed.list c.in_ok-chain_in-in-Closed.field-0 c.in_ok-frame.ensures.frame c.in_ok-frame.ensures.generators may told.chain told.serial }
