use Rattle.std.proofs.Common.{◌≡◌, length, subst, arith}
use Rattle.ua_identity.specs.KindTables.{pattern_at}
use Rattle.ua_identity.proofs.KindLaws.{part_within}
use Rattle.ua_check.specs.inner.ChartsOf.{AreEntriesBelow}
use Rattle.ua_check.proofs.charts.entries_of.Goals as goal

pub overflow_sub-part : goal.overflow_sub-part
overflow_sub-part c = (part_within c.args.chart.now.size c.args.chart.now.kind.now.patterns c.args.m c.part-part.result c.requires.pattern c.part-part.ensures).0

pub returns : goal.returns
returns c =
    let chart = c.args.chart.now in
    let inv = c.loop-i.invariant in
    let end = c.len-i-end.ensures.len in
    let test = c.loop-i-test.false in
    let auto = c.loop-i.auto in
    let all : c.loop-i.i ≡ length chart.rows.now.items = omega (arith, end, test, auto) in
    record { width = inv.width; entries = subst (λ n. AreEntriesBelow chart (pattern_at chart.kind.now.patterns c.args.m) c.args.marks.now n c.loop-i.entries.items) all inv.entries }
