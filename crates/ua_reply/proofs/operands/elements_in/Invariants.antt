use Rattle.std.proofs.Common.{take}
use Rattle.ua_reply.specs.Checks.{AreFirst}
use Rattle.ua_reply.specs.Operands.{elements_in}
use Rattle.ua_reply.proofs.operands.elements_in.Given as goal

abbrev pub invariant-loop-entry : goal.invariant-loop-entry
invariant-loop-entry l = AreFirst (elements_in l.known (take l.entry-index l.entries)) l.errors
