use Rattle.std.proofs.Common.{take}
use Rattle.ua_reply.specs.Checks.{AreFirst}
use Rattle.ua_reply.specs.Operands.{vectors_in}
use Rattle.ua_reply.proofs.operands.vectors_in.Given as goal

abbrev pub invariant-loop-v : goal.invariant-loop-v
invariant-loop-v l = AreFirst (vectors_in l.known l.width (take l.v-index l.vs)) l.errors
