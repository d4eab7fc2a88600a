use Rattle.std.proofs.Common.{◌≡◌, ◌++◌, take}
use Rattle.ua_part.specs.Blocks.{partition_text}
use Rattle.ua_reply.specs.Texts.{lines}
use Rattle.ua_answer_congruences.proofs.texts.push_parts.Given as goal

abbrev pub invariant-loop-part : goal.invariant-loop-part
invariant-loop-part l = l.out.items ≡ l.fn.out.items ++ lines partition_text (take l.part-index l.parts)
