use Rattle.std.proofs.Common.{◌≡◌, ◌++◌, take}
use Rattle.ua_reply.specs.Texts.{lines}
use Rattle.ua_answer_congruences.specs.TypesCommand.{cover_text}
use Rattle.ua_answer_congruences.proofs.covers.push_covers.Given as goal

abbrev pub invariant-loop-row : goal.invariant-loop-row
invariant-loop-row l = l.out.items ≡ l.fn.out.items ++ lines cover_text (take l.row-index l.rows)
