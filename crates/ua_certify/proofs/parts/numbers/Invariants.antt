use Rattle.std.proofs.Common.{◌≡◌, take}
use Rattle.ua_certify.proofs.parts.numbers.Given as goal

abbrev pub invariant-loop-x : goal.invariant-loop-x
invariant-loop-x l = l.list.items ≡ take l.x-index l.vector
