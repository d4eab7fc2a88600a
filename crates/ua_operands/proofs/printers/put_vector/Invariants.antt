use Rattle.ua_operands.proofs.Vocabulary.{Shows, entry}
use Rattle.std.proofs.Common.{map, take}
use Rattle.ua_operands.proofs.printers.put_vector.Given as goal

-- the values so far are printed
abbrev pub invariant-loop-value : goal.invariant-loop-value
invariant-loop-value l = Shows l.initial.printer l.printer (map entry (take l.value-index l.value-items))
