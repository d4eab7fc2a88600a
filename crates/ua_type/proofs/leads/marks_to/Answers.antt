use Rattle.ua_type.proofs.leads.marks_to.Goals as goal

pub returns-then-not-sweep : goal.returns-then-not-sweep
returns-then-not-sweep c = c.sweep.ensures.marks c.args.pair c.loop.invariant

pub loop-preserved : goal.loop-preserved
loop-preserved c = c.sweep.ensures.marks c.args.pair c.loop.invariant
