use Rattle.ua_type.proofs.MarkLaws.{marks_more, reached_generates}
use Rattle.ua_type.proofs.leads.extend.Goals as goal

pub returns-clause-marks : goal.returns-clause-marks
returns-clause-marks c target h =
    marks_more c.args.b.now target c.args.marks.now c.put.new.self c.args.pair c.requires.second c.put.ensures.size c.put.ensures.marked h
    (reached_generates c.args.b.now target c.args.marks.now c.args.pair h (c.reaches.ensures c.if-not-reaches.false))
