use Rattle.std.proofs.Common.{◌≡◌, ◌≤◌, length, map, take}
use Rattle.std.specs.Prelude.{slice_index, ◌==◌}
use Rattle.std.specs.List.{filter, range_with_len}
use Rattle.ua_prod.specs.Constructions.{blocks_below}
use Rattle.ua_prod.proofs.quotients.by_blocks.Given as goal

abbrev pub invariant-loop-a : goal.invariant-loop-a
invariant-loop-a l = record {
  members : l.members.items ≡ filter (λ k. slice_index l.p k == k) (range_with_len 0 l.a);
  few : length l.members.items ≤ l.a;
  numbers : l.numbers.items ≡ map (blocks_below l.p) (take l.a l.p);
}
