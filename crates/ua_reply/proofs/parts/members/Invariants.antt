use Rattle.std.proofs.Common.{◌≡◌, take}
use Rattle.ua_reply.specs.Parts.{members_of}
use Rattle.ua_reply.proofs.parts.members.Given as goal

abbrev pub invariant-loop-n : goal.invariant-loop-n
invariant-loop-n l = l.members.items ≡ members_of (take l.n-index l.block)
