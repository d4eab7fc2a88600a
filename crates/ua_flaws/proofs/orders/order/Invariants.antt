use Rattle.std.proofs.Common.{◌≡◌, drop}
use Rattle.ua_flaws.specs.Firsts.{first_bad}
use Rattle.ua_flaws.specs.Flaws.{follows}
use Rattle.ua_flaws.proofs.orders.order.Given as goal

abbrev pub invariant-loop-i : goal.invariant-loop-i
invariant-loop-i l = first_bad (follows l.rows) 0 l.rows ≡ first_bad (follows l.rows) l.i (drop l.i l.rows)
