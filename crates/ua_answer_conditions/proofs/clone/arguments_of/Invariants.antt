use Rattle.std.proofs.Common.{◌≡◌, map, take}
use Rattle.ua_reply.specs.Operands.{value_of}
use Rattle.ua_answer_conditions.proofs.clone.arguments_of.Given as goal

abbrev pub invariant-loop-i : goal.invariant-loop-i
invariant-loop-i l = l.arguments.items ≡ map (value_of l.known) (take l.i l.entries)
