use Rattle.std.proofs.Common.{sym, ap, ◌∙◌, arith}
use Rattle.ua_identity.specs.Patterns.{part_of}
use Rattle.ua_identity.specs.KindTables.{pattern_at}
use Rattle.ua_identity.proofs.KindLaws.{part_within, entries_are}
use Rattle.ua_check.specs.inner.ChartsOf.{row_at}
use Rattle.ua_check.proofs.charts.part.Goals as goal

pub part-requires-clause-order : goal.part-requires-clause-order
part-requires-clause-order c = (part_within c.args.chart.now.size c.args.chart.now.kind.now.patterns c.args.m c.part-part.result c.requires.pattern c.part-part.ensures).0

pub part-requires-clause-within : goal.part-requires-clause-within
part-requires-clause-within c =
    let within = (part_within c.args.chart.now.size c.args.chart.now.kind.now.patterns c.args.m c.part-part.result c.requires.pattern c.part-part.ensures).1 in
    let width = c.requires.chart.width in
    omega (arith, within, width)

pub returns-clause-entries : goal.returns-clause-entries
returns-clause-entries c =
    let n = c.args.chart.now.size in
    let ps = c.args.chart.now.kind.now.patterns in
    let v = row_at c.args.chart.now c.args.i in
    c.part.ensures.part
    ∙ entries_are n ps c.args.m c.part-part.result v c.requires.pattern c.part-part.ensures
    ∙ ap (λ k. part_of n ps k (pattern_at ps c.args.m) v) (sym (c.patterns-patterns.ensures.different c.args.m c.requires.pattern))

pub returns-clause-width : goal.returns-clause-width
returns-clause-width c = c.part.ensures.width ∙ (part_within c.args.chart.now.size c.args.chart.now.kind.now.patterns c.args.m c.part-part.result c.requires.pattern c.part-part.ensures).2
