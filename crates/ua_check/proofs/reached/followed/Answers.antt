use Rattle.std.proofs.Common.{sym, ◌∙◌, arith}
use Rattle.ua_check.specs.Reached.{is_followed}
use Rattle.ua_check.proofs.ReachedLaws.{row_refused, row_passed}
use Rattle.ua_check.proofs.reached.followed.Goals as goal

pub returns-then-not-is_followed : goal.returns-then-not-is_followed
returns-then-not-is_followed c =
    row_refused
    (is_followed c.args.chart.now.size c.args.chart.now.kind.now c.args.chart.now.rows.now.items c.args.even.now.list.now c.args.odd.now.list.now)
    c.args.chart.now.rows.now.items c.loop-i.i (let l = c.loop-i-test.true in let e = c.len-i-end.ensures.len in omega arith) c.loop-i.invariant
    (sym c.is_followed.ensures ∙ c.if-not-is_followed.true)

pub loop-i-preserved : goal.loop-i-preserved
loop-i-preserved c =
    row_passed
    (is_followed c.args.chart.now.size c.args.chart.now.kind.now c.args.chart.now.rows.now.items c.args.even.now.list.now c.args.odd.now.list.now)
    c.args.chart.now.rows.now.items c.loop-i.i (let l = c.loop-i-test.true in let e = c.len-i-end.ensures.len in omega arith) c.loop-i.invariant
    (sym c.is_followed.ensures ∙ c.if-not-is_followed.false)
