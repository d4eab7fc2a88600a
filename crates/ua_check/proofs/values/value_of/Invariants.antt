use Rattle.std.proofs.Common.{◌≡◌, ◌<◌, map, take, length}
use Rattle.std.specs.Prelude.{slice_index}
use Rattle.std.specs.List.{AllByRecursion}
use Rattle.ua_check.proofs.ValueLaws.{Valued}
use Rattle.ua_check.proofs.values.value_of.Given as goal

-- the values of the steps so far
abbrev pub invariant-loop-i : goal.invariant-loop-i
invariant-loop-i l = record {
  room : length l.values ≡ length l.fn.values;
  known : Valued l.a (map (slice_index l.xs) l.places) l.steps l.i l.values;
  below : AllByRecursion (λ x. x < l.a.size) (take l.i l.values);
}
