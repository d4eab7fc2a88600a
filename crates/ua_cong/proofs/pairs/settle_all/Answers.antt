use Rattle.std.proofs.Common.{arith}
use Rattle.ua_cong.proofs.PairLaws.{there_more}
use Rattle.ua_cong.proofs.pairs.settle_all.Goals as goal

pub loop-i-preserved : goal.loop-i-preserved
loop-i-preserved c =
    let a = c.args.a.now in
    let old = c.loop-i.known.rows.items in
    let new = c.settle.new.known.rows.items in
    let one = c.settle.ensures.few in
    let few = c.loop-i.invariant.few in
    record {
      known = c.in_ok-settle.ensures.known;
      within = (let n = c.len.ensures.len in omega (arith, n, c.if-len-bound.false));
      few = omega (arith, one, few);
      there = there_more a old new c.args.pairs.now c.loop-i.i (0, 0) c.in_ok-settle.ensures.kept c.loop-i-test.true c.loop-i.invariant.there c.in_ok-settle.ensures.there;
    }
