use Rattle.std.proofs.Common.{◌≡◌, take}
use Rattle.ua_sub.specs.Members.{singles}
use Rattle.ua_sub.proofs.members.singles.Given as goal

abbrev pub invariant-loop-x : goal.invariant-loop-x
invariant-loop-x l = l.list ≡ record { width = 1; items = singles (take l.x-index l.elements) }
