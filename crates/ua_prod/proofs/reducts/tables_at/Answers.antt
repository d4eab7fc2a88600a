use Rattle.std.proofs.Common.{◌+◌, ◌∷◌, [], ◌++◌, take, ◌∙◌, sym, arith}
use Rattle.std.proofs.lemmas.List.{take_more}
use Rattle.ua_prod.proofs.ReductLaws.{operations_more}
use Rattle.ua_prod.proofs.reducts.tables_at.Goals as goal

pub loop-i-preserved : goal.loop-i-preserved
loop-i-preserved c =
    let fs = c.args.ops.now in
    let i = c.loop-i.i in
    c.in_ok-push.ensures.items
    ∙ (λ j. c.loop-i.invariant j ++ c.in_ok-copy.ensures j ∷ [])
    ∙ sym (operations_more c.args.a.now.operations (take i fs) (take (i + 1) fs) _ c.op.result.now (take_more fs i 0 (omega arith)) c.op.ensures.operation)
