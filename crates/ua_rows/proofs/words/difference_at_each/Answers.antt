use Rattle.ua_rows.proofs.WordLaws.{difference_more}
use Rattle.ua_rows.proofs.words.difference_at_each.Goals as goal

pub loop-i-preserved : goal.loop-i-preserved
loop-i-preserved c = difference_more c.args.a.now c.args.b.now c.loop-i.i c.loop-i.bits c.apart-bits.result c.loop-i-test.true c.requires c.loop-i.invariant c.apart-bits.ensures
