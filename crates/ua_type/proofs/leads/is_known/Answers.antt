use Rattle.std.proofs.Common.{sym, ◌∙◌}
use Rattle.ua_type.proofs.MarkLaws.{marked_generates, reached_generates}
use Rattle.ua_type.proofs.leads.is_known.Goals as goal

pub returns-then-has : goal.returns-then-has
returns-then-has c target h t = marked_generates c.args.b.now target c.args.marks.now h c.args.pair.0 c.args.pair.1 c.requires.second (sym c.has.ensures ∙ t)

pub returns-else-has : goal.returns-else-has
returns-else-has c target h t = reached_generates c.args.b.now target c.args.marks.now c.args.pair h (c.reaches.ensures t)
