use Rattle.std.proofs.Common.{◌≡◌, take}
use Rattle.ua_reply.specs.Operands.{pairs_of}
use Rattle.ua_reply.proofs.operands.pairs.Given as goal

abbrev pub invariant-loop-v : goal.invariant-loop-v
invariant-loop-v l = l.list.items ≡ pairs_of l.known (take l.v-index l.vs)
