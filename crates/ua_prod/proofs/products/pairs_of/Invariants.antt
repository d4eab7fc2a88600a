use Rattle.std.proofs.Common.{◌≡◌, map}
use Rattle.std.specs.List.{range_with_len}
use Rattle.ua_prod.specs.Constructions.{first_of, second_of}
use Rattle.ua_prod.proofs.products.pairs_of.Given as goal

abbrev pub invariant-loop-pair : goal.invariant-loop-pair
invariant-loop-pair l = record {
  firsts : l.firsts.items ≡ map (first_of l.second) (range_with_len 0 l.pair);
  seconds : l.seconds.items ≡ map (second_of l.second) (range_with_len 0 l.pair);
}
