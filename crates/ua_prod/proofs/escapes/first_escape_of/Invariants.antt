use Rattle.std.proofs.Common.{take}
use Rattle.std.specs.List.{AllByRecursion}
use Rattle.ua_prod.specs.Constructions.{tuples_among}
use Rattle.ua_prod.proofs.EscapeLaws.{Stays}
use Rattle.ua_prod.proofs.escapes.first_escape_of.Given as goal

abbrev pub invariant-loop-i : goal.invariant-loop-i
invariant-loop-i l = AllByRecursion (Stays l.table l.renumbering.members.items) (take l.i (tuples_among l.renumbering.members.items l.table.arity))
