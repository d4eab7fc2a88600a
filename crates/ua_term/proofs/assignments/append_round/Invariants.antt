use Rattle.std.proofs.Common.{◌≡◌, ◌++◌, replicate}
use Rattle.std.specs.List.{flat_map, range_with_len}
use Rattle.ua_term.proofs.assignments.append_round.Given as goal

-- the runs so far
abbrev pub invariant-loop-x : goal.invariant-loop-x
invariant-loop-x l = l.row.items ≡ l.fn.row.items ++ flat_map (replicate l.often) (range_with_len 0 l.x)
