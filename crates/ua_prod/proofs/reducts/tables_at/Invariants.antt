use Rattle.std.proofs.Common.{◌≡◌, take}
use Rattle.ua_prod.specs.Constructions.{operations_at}
use Rattle.ua_prod.proofs.reducts.tables_at.Given as goal

abbrev pub invariant-loop-i : goal.invariant-loop-i
invariant-loop-i l = l.tables.items ≡ operations_at l.a.operations (take l.i l.ops)
