use Rattle.ua_work.proofs.GrowthLaws.{completing_further}
use Rattle.ua_work.proofs.completions.complete.Goals as goal

pub go_on-requires : goal.go_on-requires
go_on-requires c =
    let i = c.loop.invariant.completing in
    let e = c.in_default.ensures in
    record { completing = completing_further i.work e.done e.worked c.args.op c.loop.basis c.loop.records.records.items i }
