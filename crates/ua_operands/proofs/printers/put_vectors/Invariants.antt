use Rattle.ua_operands.proofs.Vocabulary.{flat_map, Shows, vector}
use Rattle.std.proofs.Common.{take}
use Rattle.ua_operands.proofs.printers.put_vectors.Given as goal

-- the vectors so far are printed
abbrev pub invariant-loop-v : goal.invariant-loop-v
invariant-loop-v l = Shows l.initial.printer l.printer (flat_map vector (take l.v-index l.vectors))
