use Rattle.ua_type.proofs.MarkLaws.{marks_more}
use Rattle.ua_type.proofs.leads.mark.Goals as goal

pub returns : goal.returns
returns c target h g = marks_more c.args.b.now target c.args.marks.now c.put.new.self c.args.pair c.requires.second c.put.ensures.size c.put.ensures.marked h g
