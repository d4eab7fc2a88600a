use Rattle.std.proofs.Common.{arith}
use Rattle.ua_sub.proofs.HomLaws.{later_more, not_all}
use Rattle.ua_sub.proofs.homs.first_clash.Goals as goal

pub loop-rank-preserved : goal.loop-rank-preserved
loop-rank-preserved c = later_more c.args.list.now c.requires.ranks c.loop-rank.rank c.position-later.result c.position-later.ensures (c.in_default.ensures.none) c.loop-rank.invariant

pub unreachable-requires : goal.unreachable-requires
unreachable-requires c = not_all c.args.list.now c.requires.ranks c.requires.met c.loop-rank.rank (omega (arith, c.len-rank-end.ensures, c.loop-rank-test.false)) c.loop-rank.invariant
