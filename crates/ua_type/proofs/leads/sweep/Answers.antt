use Rattle.ua_type.proofs.leads.sweep.Goals as goal

pub loop-i-preserved : goal.loop-i-preserved
loop-i-preserved c = (c.extend.ensures.size, λ target h. c.extend.ensures.marks target (c.loop-i.invariant.1 target h))
