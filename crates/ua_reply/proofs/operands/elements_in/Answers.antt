use Rattle.std.proofs.Common.{take}
use Rattle.ua_reply.specs.Operands.{element_in, elements_in}
use Rattle.ua_reply.proofs.CheckLaws.{first_more}
use Rattle.ua_reply.proofs.operands.elements_in.Goals as goal

pub loop-entry-preserved : goal.loop-entry-preserved
loop-entry-preserved c =
    let k = c.args.known.now in
    let es = c.args.entries.now in
    let i = c.loop-entry.entry-index in
    let e = c.entry-item.result in
    first_more (element_in k) es i e c.and-errors.result c.loop-entry-test.true c.entry-item.is (c.and-errors.ensures.first (elements_in k (take i es)) (element_in k e) c.loop-entry.invariant c.element_in.ensures)
