use Rattle.std.proofs.Common.{◌≡◌, take}
use Rattle.ua_table.specs.Algebras.{column}
use Rattle.ua_clone.proofs.points.column.Given as goal

-- the entries of the vectors so far
abbrev pub invariant-loop-i : goal.invariant-loop-i
invariant-loop-i l = l.row.items ≡ column (take l.i l.vectors.items) l.place
