use Rattle.std.proofs.Common.{sym, ◌∙◌, arith}
use Rattle.ua_check.specs.Reached.{is_started}
use Rattle.ua_check.proofs.ReachedLaws.{row_refused, row_passed}
use Rattle.ua_check.proofs.reached.started.Goals as goal

pub returns-then-not-is_started : goal.returns-then-not-is_started
returns-then-not-is_started c =
    row_refused (is_started c.args.start.now c.args.even.now.list.now) c.args.rows.now.items c.loop-i.i
    (let l = c.loop-i-test.true in let e = c.len-i-end.ensures.len in omega arith) c.loop-i.invariant
    (sym c.is_started.ensures ∙ c.if-not-is_started.true)

pub loop-i-preserved : goal.loop-i-preserved
loop-i-preserved c =
    row_passed (is_started c.args.start.now c.args.even.now.list.now) c.args.rows.now.items c.loop-i.i
    (let l = c.loop-i-test.true in let e = c.len-i-end.ensures.len in omega arith) c.loop-i.invariant
    (sym c.is_started.ensures ∙ c.if-not-is_started.false)
