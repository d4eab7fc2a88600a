use Rattle.std.proofs.Common.{replicate, subst, Ok}
use Rattle.ua_table.proofs.ListingLaws.{exceeding_has_more}
use Rattle.ua_close.specs.declared.close.Closure.{Closure}
use Rattle.ua_close.specs.Permitted.{MayClose}
use Rattle.ua_matrix.specs.Matrices.{matrix_generators}
use Rattle.ua_matrix.proofs.MatrixLaws.{may_judge}
use Rattle.ua_matrix.proofs.centralizing.central.Goals as goal

pub returns-in-Exceeds : goal.returns-in-Exceeds
returns-in-Exceeds g c =
    let p = replicate 4 c.args.a.now in
    let gens = matrix_generators c.args.alpha.now c.args.beta.now in
    let b = c.args.run.now.budget in
    let may = subst (λ (closure : Closure). MayClose p gens b c.args.run.now.workers (Ok closure)) c.in-Exceeds.is c.in_ok-matrices.ensures.permitted in
    record { permitted = (may.0, exceeding_has_more p gens b c.in-Exceeds.field-0 may.1, λ one. tt) }

pub returns : goal.returns
returns g c =
    let p = replicate 4 c.args.a.now in
    let gens = matrix_generators c.args.alpha.now c.args.beta.now in
    let b = c.args.run.now.budget in
    let w = c.args.run.now.workers in
    let may = subst (λ (closure : Closure). MayClose p gens b w (Ok closure)) c.in-Closed.is c.in_ok-matrices.ensures.permitted in
    record { permitted = may_judge c.args.a.now c.args.alpha.now c.args.beta.now c.args.delta.now b w c.in-Closed.list may.0 may.1 may.2 c.in_ok-judged-in-Closed.field-0 c.in_ok-judged-in-Closed.ensures }
