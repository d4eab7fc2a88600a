use Rattle.std.proofs.Common.{◌≡◌, take}
use Rattle.ua_answer_algebras.specs.MakeCommand.{numbers_of}
use Rattle.ua_answer_algebras.proofs.reduct.operations.Given as goal

abbrev pub invariant-loop-name : goal.invariant-loop-name
invariant-loop-name l = l.ops.items ≡ numbers_of l.known (take l.name-index l.names)
