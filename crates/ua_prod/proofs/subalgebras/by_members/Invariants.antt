use Rattle.std.proofs.Common.{◌≡◌, map}
use Rattle.std.specs.List.{range_with_len}
use Rattle.ua_prod.specs.Constructions.{place_among}
use Rattle.ua_prod.proofs.subalgebras.by_members.Given as goal

abbrev pub invariant-loop-x : goal.invariant-loop-x
invariant-loop-x l = l.numbers.items ≡ map (place_among l.set) (range_with_len 0 l.x)
