use Rattle.std.proofs.Common.{take}
use Rattle.ua_reply.specs.Checks.{AreFirst, all_in}
use Rattle.ua_answer_algebras.specs.MakeCommand.{operation_in}
use Rattle.ua_answer_algebras.proofs.reduct.known_in.Given as goal

abbrev pub invariant-loop-name : goal.invariant-loop-name
invariant-loop-name l = AreFirst (all_in (operation_in l.known) (take l.name-index l.names)) l.errors
