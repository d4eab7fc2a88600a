use Rattle.std.proofs.Common.{take}
use Rattle.ua_reply.specs.Checks.{AreFirst}
use Rattle.ua_reply.specs.Parts.{block_in}
use Rattle.ua_reply.proofs.parts.block_in.Given as goal

abbrev pub invariant-loop-n : goal.invariant-loop-n
invariant-loop-n l = AreFirst (block_in l.known (take l.n-index l.block)) l.errors
