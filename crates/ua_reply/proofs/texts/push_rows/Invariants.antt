use Rattle.std.proofs.Common.{◌≡◌, ◌++◌, take}
use Rattle.ua_reply.specs.Texts.{lines, row_text}
use Rattle.ua_reply.proofs.texts.push_rows.Given as goal

abbrev pub invariant-loop-i : goal.invariant-loop-i
invariant-loop-i l = l.out.items ≡ l.fn.out.items ++ lines (row_text l.known) (take l.i l.listing)
