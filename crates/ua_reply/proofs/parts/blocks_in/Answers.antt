use Rattle.std.proofs.Common.{List, take, subst}
use Rattle.ua_operands.specs.declared.written.Number.{Number}
use Rattle.ua_reply.specs.Checks.{AreFirst, all_in}
use Rattle.ua_reply.specs.Parts.{block_in}
use Rattle.ua_reply.proofs.CheckLaws.{first_more}
use Rattle.ua_reply.proofs.parts.blocks_in.Goals as goal

pub loop-block-preserved : goal.loop-block-preserved
loop-block-preserved c =
    let k = c.args.known.now in
    let bs = c.args.blocks.now in
    let i = c.loop-block.block-index in
    let b = c.block-item.result in
    let here = subst (λ (ns : List Number). AreFirst (block_in k ns) c.block_in.result) c.as_slice.ensures c.block_in.ensures in
    let both = c.and-errors.ensures.first (all_in (block_in k) (take i bs)) (block_in k b) c.loop-block.invariant here in
    first_more (block_in k) bs i b c.and-errors.result c.loop-block-test.true c.block-item.is both
