use Rattle.std.proofs.Common.{◌∙◌}
use Rattle.ua_flaws.proofs.FirstLaws.{looked_up}
use Rattle.ua_flaws.proofs.closing.is_scratch_row.Goals as goal

pub returns : goal.returns
returns c = c.is_some.ensures ∙ looked_up c.args.rows.now.items c.args.v.now c.find_scratch.result c.find_scratch.ensures.found c.find_scratch.ensures.absent
