use Rattle.std.proofs.Common.{arith}
use Rattle.ua_lanes.proofs.WindowLaws.{sizes_by_index}
use Rattle.ua_lanes.proofs.lanes.greatest_size.Goals as goal

pub returns-clause-sizes : goal.returns-clause-sizes
returns-clause-sizes c = sizes_by_index c.args.frame.now c.loop-x.greatest (λ k low. c.loop-x.invariant.sizes k (let w = c.width-x-end.ensures.width in let t = c.loop-x-test.false in omega (arith, low, w, t)))
