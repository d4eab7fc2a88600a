use Rattle.std.proofs.Common.{◌≡◌, ◌++◌, drop}
use Rattle.ua_part.specs.Blocks.{partition_text}
use Rattle.ua_reply.specs.Texts.{numbered}
use Rattle.ua_answer_congruences.proofs.con.push_numbered.Given as goal

-- the text so far, and that of the partitions that are left
abbrev pub invariant-loop-i : goal.invariant-loop-i
invariant-loop-i l = l.out.items ++ numbered partition_text l.i (drop l.i l.parts) ≡ l.fn.out.items ++ numbered partition_text 0 l.parts
