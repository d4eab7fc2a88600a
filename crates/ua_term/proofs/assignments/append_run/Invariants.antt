use Rattle.std.proofs.Common.{◌≡◌, ◌++◌, replicate}
use Rattle.ua_term.proofs.assignments.append_run.Given as goal

-- the elements so far
abbrev pub invariant-loop : goal.invariant-loop
invariant-loop l = l.row.items ≡ l.fn.row.items ++ replicate l.counter l.x
