use Rattle.std.proofs.Common.{◌≡◌, take}
use Rattle.ua_table.specs.Listings.{vectors_of}
use Rattle.ua_sub.specs.Members.{singles}
use Rattle.ua_sub.proofs.members.entries.Given as goal

abbrev pub invariant-loop-i : goal.invariant-loop-i
invariant-loop-i l = singles l.members.items ≡ take l.i (vectors_of l.list)
