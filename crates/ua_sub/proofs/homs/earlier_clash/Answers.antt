use Rattle.std.proofs.Common.{arith}
use Rattle.ua_close.proofs.NeedLaws.{position_is}
use Rattle.ua_sub.proofs.HomLaws.{rank_low, earlier_more}
use Rattle.ua_sub.proofs.homs.earlier_clash.Goals.{else-same-element-via-then-same-element+else-other-image, else-same-element-via-else-same-element}
use Rattle.ua_sub.proofs.homs.earlier_clash.Goals as goal

pub position-earlier-requires : goal.position-earlier-requires
position-earlier-requires c =
    let low = rank_low c.args.list.now c.requires.ranks c.args.later c.rank-rank-end.result c.rank-rank-end.ensures in
    omega (arith, low, c.loop-rank-test.true)

pub pair_at-same-requires-clause-row : goal.pair_at-same-requires-clause-row
pair_at-same-requires-clause-row c = (position_is c.args.list.now c.position-earlier.result c.loop-rank.rank c.position-earlier.ensures).0

pub loop-rank-preserved : goal.loop-rank-preserved
loop-rank-preserved c =
    let q = c.pair_at-element.result in
    let r = c.pair_at-same.result in
    earlier_more c.args.list.now c.requires.ranks c.loop-rank.rank c.position-earlier.result c.position-earlier.ensures c.args.later q r c.pair_at-element.ensures c.pair_at-same.ensures
    (λ clash. elim c.else-same-element.branch [
      | else-same-element-via-then-same-element+else-other-image w ↦ clash.1 w.if-other-image.false
      | else-same-element-via-else-same-element w ↦ w.if-same-element.false clash.0
    ])
    c.loop-rank.invariant

pub returns-clause-none : goal.returns-clause-none
returns-clause-none c earlier clash =
    let low = c.loop-rank.invariant earlier clash in
    let here = position_is c.args.list.now c.args.later c.rank-rank-end.result c.rank-rank-end.ensures in
    omega (arith, low, clash.order, here.1, c.loop-rank-test.false)
