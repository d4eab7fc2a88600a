use Rattle.std.proofs.Common.{◌≡◌, ◌++◌, take}
use Rattle.ua_reply.specs.Texts.{more_elements}
use Rattle.ua_reply.proofs.texts.push_more_elements.Given as goal

abbrev pub invariant-loop-x : goal.invariant-loop-x
invariant-loop-x l = l.out.items ≡ l.fn.out.items ++ more_elements l.known (take l.x-index l.v)
