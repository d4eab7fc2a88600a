use Rattle.std.proofs.Common.{take}
use Rattle.ua_reply.specs.Operands.{vector_in, vectors_in}
use Rattle.ua_reply.proofs.CheckLaws.{first_more}
use Rattle.ua_reply.proofs.operands.vectors_in.Goals as goal

pub loop-v-preserved : goal.loop-v-preserved
loop-v-preserved c =
    let k = c.args.known.now in
    let w = c.args.width in
    let vs = c.args.vs.now in
    let i = c.loop-v.v-index in
    let v = c.v-item.result in
    first_more (vector_in k w) vs i v c.and-errors.result c.loop-v-test.true c.v-item.is (c.and-errors.ensures.first (vectors_in k w (take i vs)) (vector_in k w v) c.loop-v.invariant c.vector_in.ensures)
