use Rattle.std.proofs.Common.{arith}
use Rattle.ua_identity.proofs.FillingLaws.{start_narrow}
use Rattle.ua_identity.proofs.fillings.start_of.Goals as goal

pub overflow_cast-result : goal.overflow_cast-result
overflow_cast-result c =
    let low = start_narrow c.args.size c.args.patterns.now c.args.m in
    let all = c.requires.narrow in
    let width = c.width_of.ensures.width in
    omega (arith, low, all, width)
