use Rattle.std.proofs.Common.{arith}
use Rattle.ua_reply.proofs.OperandLaws.{width_positive}
use Rattle.ua_reply.proofs.operands.power.Goals as goal

pub power_within-requires-clause-some : goal.power_within-requires-clause-some
power_within-requires-clause-some c = let some = width_positive c.args.width c.requires.passed in omega (arith, some, c.from.ensures)
