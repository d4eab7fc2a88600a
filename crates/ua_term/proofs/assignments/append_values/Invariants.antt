use Rattle.std.proofs.Common.{◌≡◌, ◌++◌}
use Rattle.ua_term.proofs.RunLaws.{copies, round}
use Rattle.ua_term.proofs.assignments.append_values.Given as goal

-- the rounds so far
abbrev pub invariant-loop : goal.invariant-loop
invariant-loop l = l.row.items ≡ l.fn.row.items ++ copies l.counter (round l.size l.often)
