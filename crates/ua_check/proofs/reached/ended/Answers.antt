use Rattle.std.proofs.Common.{sym, ◌∙◌, arith}
use Rattle.ua_check.specs.Reached.{is_not_end}
use Rattle.ua_check.proofs.ReachedLaws.{row_refused, row_passed}
use Rattle.ua_check.proofs.reached.ended.Goals as goal

pub returns-then-not-is_not_end : goal.returns-then-not-is_not_end
returns-then-not-is_not_end c =
    row_refused (is_not_end c.args.end.now c.args.even.now.list.now c.args.odd.now.list.now) c.args.rows.now.items c.loop-i.i
    (let l = c.loop-i-test.true in let e = c.len-i-end.ensures.len in omega arith) c.loop-i.invariant
    (sym c.is_not_end.ensures ∙ c.if-not-is_not_end.true)

pub loop-i-preserved : goal.loop-i-preserved
loop-i-preserved c =
    row_passed (is_not_end c.args.end.now c.args.even.now.list.now c.args.odd.now.list.now) c.args.rows.now.items c.loop-i.i
    (let l = c.loop-i-test.true in let e = c.len-i-end.ensures.len in omega arith) c.loop-i.invariant
    (sym c.is_not_end.ensures ∙ c.if-not-is_not_end.false)
