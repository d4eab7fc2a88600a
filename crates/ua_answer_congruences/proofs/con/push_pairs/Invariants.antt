use Rattle.std.proofs.Common.{◌≡◌, ◌++◌, take}
use Rattle.ua_reply.specs.Texts.{lines, pair_text}
use Rattle.ua_answer_congruences.proofs.con.push_pairs.Given as goal

abbrev pub invariant-loop-pair : goal.invariant-loop-pair
invariant-loop-pair l = l.out.items ≡ l.fn.out.items ++ lines pair_text (take l.pair-index l.pairs)
