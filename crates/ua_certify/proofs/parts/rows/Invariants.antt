use Rattle.std.proofs.Common.{◌≡◌, take}
use Rattle.ua_table.specs.Listings.{vectors_of}
use Rattle.ua_certify.proofs.parts.rows.Given as goal

abbrev pub invariant-loop-i : goal.invariant-loop-i
invariant-loop-i l = l.rows.items ≡ take l.i (vectors_of l.listing)
