use Rattle.std.proofs.Common.{length, ap, ◌∙◌, arith, length-append}
use Rattle.ua_part.specs.Pairs.{pairs_at}
use Rattle.ua_matrix.proofs.GeneratorLaws.{pairs_of_front, pairs_front_more}
use Rattle.ua_matrix.proofs.leading.related_count.Goals as goal

pub loop-x-preserved : goal.loop-x-preserved
loop-x-preserved c =
    let p = c.args.part.now in
    let x = c.loop-x.x in
    let all = ap length (pairs_front_more p x) ∙ length-append (pairs_of_front p x) (pairs_at p x) in
    let here = c.block_len-count.ensures.count in
    let few = c.block_len-count.ensures.few in
    let before = c.loop-x.invariant.counted in
    let low = c.loop-x.invariant.low in
    let small = c.requires in
    record { counted = omega (arith, all, here, before); low = omega (arith, few, low, small) }
