use Rattle.std.proofs.Common.{◌≡◌, drop}
use Rattle.ua_flaws.specs.Firsts.{first_bad}
use Rattle.ua_check.specs.Reached.{is_not_end}
use Rattle.ua_check.proofs.reached.ended.Given as goal

-- no row so far is refused
abbrev pub invariant-loop-i : goal.invariant-loop-i
invariant-loop-i l = first_bad (is_not_end l.end l.even.list.now l.odd.list.now) 0 l.rows.items ≡ first_bad (is_not_end l.end l.even.list.now l.odd.list.now) l.i (drop l.i l.rows.items)
