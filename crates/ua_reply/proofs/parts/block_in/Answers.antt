use Rattle.std.proofs.Common.{◌<◌, length, take, get_or, arith}
use Rattle.std.proofs.lemmas.List.{get_or_default}
use Rattle.ua_operands.specs.declared.written.Number.{Number}
use Rattle.ua_reply.specs.Parts.{member_in, block_in}
use Rattle.ua_reply.proofs.CheckLaws.{first_more}
use Rattle.ua_reply.proofs.parts.block_in.Goals as goal

abbrev none_there : Number
none_there = record { value = 0; place = record { line = 0; column = 0 } }

pub loop-n-preserved : goal.loop-n-preserved
loop-n-preserved c =
    let k = c.args.known.now in
    let ns = c.args.block.now in
    let i = c.loop-n.n-index in
    let n = get_or ns i none_there in
    let low : i < length ns = let l = c.loop-n-test.true in omega arith in
    first_more (member_in k) ns i n c.and-errors.result low (get_or_default ns i none_there n low) (c.and-errors.ensures.first (block_in k (take i ns)) (member_in k n) c.loop-n.invariant c.member_in.ensures)
