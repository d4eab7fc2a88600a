use Rattle.std.proofs.Common.{◌≡◌, take}
use Rattle.ua_table.specs.Listings.{ranks_of}
use Rattle.ua_certify.proofs.parts.ranks.Given as goal

abbrev pub invariant-loop-i : goal.invariant-loop-i
invariant-loop-i l = l.ranks.items ≡ take l.i (ranks_of l.listing)
