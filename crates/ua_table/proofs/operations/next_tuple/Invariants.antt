use Rattle.std.proofs.Common.{◌≡◌, ◌+◌, ◌-◌, ◌<◌, ◌^◌, length}
use Rattle.std.specs.List.{AllByRecursion}
use Rattle.ua_table.specs.Algebras.{numeral}
use Rattle.ua_table.proofs.operations.next_tuple.Given as goal

-- one more at the place before makes them the next tuple
abbrev pub invariant-loop-place : goal.invariant-loop-place
invariant-loop-place l = record {
  below : AllByRecursion (λ x. x < l.size) l.xs;
  number : numeral l.size l.xs + l.size ^ (length l.xs - l.place) ≡ numeral l.size l.fn.xs + 1;
}
