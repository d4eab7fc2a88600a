use Rattle.std.proofs.Common.{◌∙◌}
use Rattle.ua_type.proofs.MarkLaws.{first_mark}
use Rattle.ua_type.proofs.leads.first_mark.Goals as goal

pub returns : goal.returns
returns c = first_mark c.args.b.now c.args.pair c.in_ok-marks.marks c.put.new.self _ c.requires.second (c.in_ok-marks.ensures.size ∙ c.size.ensures.size) c.in_ok-marks.ensures.none c.put.ensures.size c.put.ensures.marked
