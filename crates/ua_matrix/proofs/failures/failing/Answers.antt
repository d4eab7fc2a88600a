use Rattle.std.proofs.Common.{arith}
use Rattle.ua_matrix.proofs.FailureLaws.{all_go}
use Rattle.ua_matrix.proofs.failures.failing.Goals as goal

pub returns-clause-none : goal.returns-clause-none
returns-clause-none c =
    all_go c.args.delta.now c.args.matrices.now.items c.requires
    (λ j w. c.loop-i.invariant j (omega (arith, w, c.loop-i-test.false, c.len-i-end.ensures)))
