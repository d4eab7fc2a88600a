use Rattle.ua_part.proofs.JoinLaws.{IsJoinedBelow}
use Rattle.ua_part.proofs.sets.DisjointSets.unite_row.Given as goal

abbrev pub invariant-loop-a : goal.invariant-loop-a
invariant-loop-a l = IsJoinedBelow l.fn.self l.row l.self l.a
