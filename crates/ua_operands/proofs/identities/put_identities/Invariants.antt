use Rattle.ua_operands.proofs.Vocabulary.{flat_map, Shows, identity}
use Rattle.std.proofs.Common.{take}
use Rattle.ua_operands.proofs.identities.put_identities.Given as goal

-- the identities so far are printed
abbrev pub invariant-loop-i : goal.invariant-loop-i
invariant-loop-i l = Shows l.initial.printer l.printer (flat_map identity (take l.i-index l.identities))
