use Rattle.std.proofs.Common.{◌≡◌, ◌++◌, take}
use Rattle.ua_part.specs.Blocks.{more_numbers}
use Rattle.ua_reply.proofs.texts.push_more_numbers.Given as goal

abbrev pub invariant-loop-n : goal.invariant-loop-n
invariant-loop-n l = l.out.items ≡ l.fn.out.items ++ more_numbers (take l.n-index l.ns)
