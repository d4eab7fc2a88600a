use Rattle.std.proofs.Common.{◌≡◌, map, take}
use Rattle.ua_prod.specs.Constructions.{renumbered}
use Rattle.ua_prod.proofs.renumbering.tables_among.Given as goal

abbrev pub invariant-loop-f : goal.invariant-loop-f
invariant-loop-f l = l.tables.items ≡ map (renumbered l.renumbering.members.items l.renumbering.numbers.items) (take l.f l.a.operations)
