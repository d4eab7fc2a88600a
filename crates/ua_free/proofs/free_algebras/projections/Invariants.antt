use Rattle.std.proofs.Common.{◌≡◌, map}
use Rattle.std.specs.List.{range_with_len}
use Rattle.ua_term.specs.Assignments.{projection}
use Rattle.ua_free.proofs.free_algebras.projections.Given as goal

-- the projections so far
abbrev pub invariant-loop-variable : goal.invariant-loop-variable
invariant-loop-variable l = record {
  width : l.vectors.width ≡ l.width;
  items : l.vectors.items ≡ map (projection l.size l.variables) (range_with_len 0 l.variable);
}
