use Rattle.std.proofs.Common.{◌≡◌, map, take}
use Rattle.ua_reply.specs.Operands.{value_of}
use Rattle.ua_reply.proofs.operands.elements.Given as goal

abbrev pub invariant-loop-entry : goal.invariant-loop-entry
invariant-loop-entry l = l.row.items ≡ map (value_of l.known) (take l.entry-index l.entries)
