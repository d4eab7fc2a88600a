use Rattle.std.proofs.Common.{◌∙◌}
use Rattle.ua_flaws.proofs.FirstLaws.{looked_up}
use Rattle.ua_flaws.proofs.closing.is_row.Goals as goal

pub returns : goal.returns
returns c = c.is_some.ensures ∙ looked_up c.args.rows.now.items c.args.v.now c.find.result c.find.ensures.found c.find.ensures.absent
