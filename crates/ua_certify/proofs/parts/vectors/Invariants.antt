use Rattle.std.proofs.Common.{◌≡◌, take}
use Rattle.ua_certify.proofs.parts.vectors.Given as goal

abbrev pub invariant-loop-i : goal.invariant-loop-i
invariant-loop-i l = l.lists.items ≡ take l.i l.vectors.items
