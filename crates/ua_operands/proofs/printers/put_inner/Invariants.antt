use Rattle.ua_operands.proofs.Vocabulary.{Shows, number}
use Rattle.std.proofs.Common.{map, take}
use Rattle.ua_text.specs.declared.symbols.Role.TheVariants as roles
use Rattle.ua_operands.proofs.printers.put_inner.Given as goal

-- the numbers so far are printed
abbrev pub invariant-loop-n : goal.invariant-loop-n
invariant-loop-n l = Shows l.initial.printer l.printer (map (number roles.Inner) (take l.n-index l.numbers))
