use Rattle.std.proofs.Common.{◌≡◌, drop}
use Rattle.ua_flaws.specs.Firsts.{first_bad}
use Rattle.ua_check.specs.Reached.{is_followed}
use Rattle.ua_check.proofs.reached.followed.Given as goal

-- no row so far is refused
abbrev pub invariant-loop-i : goal.invariant-loop-i
invariant-loop-i l =
    first_bad (is_followed l.chart.size l.chart.kind.now l.chart.rows.now.items l.even.list.now l.odd.list.now) 0 l.chart.rows.now.items
    ≡ first_bad (is_followed l.chart.size l.chart.kind.now l.chart.rows.now.items l.even.list.now l.odd.list.now) l.i
    (drop l.i l.chart.rows.now.items)
