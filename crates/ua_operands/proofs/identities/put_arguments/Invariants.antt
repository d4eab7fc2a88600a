use Rattle.ua_operands.proofs.Vocabulary.{Shows, variable}
use Rattle.std.proofs.Common.{map, take}
use Rattle.ua_operands.proofs.identities.put_arguments.Given as goal

-- the variables so far are printed
abbrev pub invariant-loop-v : goal.invariant-loop-v
invariant-loop-v l = Shows l.initial.printer l.printer (map variable (take l.v-index l.args))
