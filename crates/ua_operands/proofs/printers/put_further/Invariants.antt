use Rattle.ua_operands.proofs.Vocabulary.{Shows, further}
use Rattle.std.proofs.Common.{map, take}
use Rattle.ua_operands.proofs.printers.put_further.Given as goal

-- the names so far are printed
abbrev pub invariant-loop-w : goal.invariant-loop-w
invariant-loop-w l = Shows l.initial.printer l.printer (map further (take l.w-index l.words))
