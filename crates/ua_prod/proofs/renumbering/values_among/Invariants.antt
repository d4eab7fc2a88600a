use Rattle.std.proofs.Common.{◌≡◌, map, take}
use Rattle.std.specs.Prelude.{slice_index}
use Rattle.ua_prod.proofs.renumbering.values_among.Given as goal

abbrev pub invariant-loop-i : goal.invariant-loop-i
invariant-loop-i l = l.values.items ≡ map (λ m. slice_index l.renumbering.numbers.items (slice_index l.table.values m)) (take l.i l.places.items)
