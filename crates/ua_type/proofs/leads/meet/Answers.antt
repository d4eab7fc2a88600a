use Rattle.std.proofs.Common.{sym, ◌∙◌}
use Rattle.ua_type.proofs.leads.meet.Goals as goal

pub returns-then-has : goal.returns-then-has
returns-then-has c _ = record { place = c.loop-k.k; within = c.loop-k-test.true; marked = sym c.has.ensures ∙ c.if-has.true }
