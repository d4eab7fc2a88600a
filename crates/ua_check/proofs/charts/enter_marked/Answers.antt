use Rattle.std.proofs.Common.{subst}
use Rattle.ua_identity.specs.KindTables.{pattern_at}
use Rattle.ua_rows.specs.RowLists.{GoesOnWith}
use Rattle.ua_check.proofs.SideLaws.{entered, passed_over}
use Rattle.ua_check.proofs.charts.enter_marked.Goals as goal

pub returns-in_ok-enter-clause-entries : goal.returns-in_ok-enter-clause-entries
returns-in_ok-enter-clause-entries c =
    let chart = c.args.chart.now in
    let p = pattern_at chart.kind.now.patterns c.args.m in
    entered chart p c.args.marks.now c.args.i c.args.entries.now.items c.requires.entries c.enter.new.self.items
    (subst (λ v. GoesOnWith c.args.entries.now.items v c.enter.new.self.items) c.part.ensures.entries c.in_ok-enter.ensures.entered)
    c.if-marks-i.true

pub returns-else-marks-i-clause-entries : goal.returns-else-marks-i-clause-entries
returns-else-marks-i-clause-entries c =
    passed_over c.args.chart.now (pattern_at c.args.chart.now.kind.now.patterns c.args.m) c.args.marks.now c.args.i c.args.entries.now.items c.requires.entries c.if-marks-i.false
