use Rattle.std.proofs.Common.{◌<◌, take}
use Rattle.std.specs.List.{AllByRecursion}
use Rattle.ua_table.specs.Algebras.{Vector}
use Rattle.ua_clone.proofs.points.are_elements.Given as goal

-- the entries of the vectors so far are below
abbrev pub invariant-loop-i : goal.invariant-loop-i
invariant-loop-i l = AllByRecursion (λ (v : Vector). AllByRecursion (λ x. x < l.size) v) (take l.i l.vectors.items)
