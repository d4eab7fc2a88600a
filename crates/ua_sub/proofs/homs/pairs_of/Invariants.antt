use Rattle.std.proofs.Common.{◌≡◌, map, take}
use Rattle.ua_table.specs.Listings.{vectors_of}
use Rattle.ua_sub.specs.Homs.{two}
use Rattle.ua_sub.proofs.homs.pairs_of.Given as goal

abbrev pub invariant-loop-i : goal.invariant-loop-i
invariant-loop-i l = map two l.pairs.items ≡ take l.i (vectors_of l.list)
