use Rattle.ua_climb.proofs.MarkLaws.{opens_more}
use Rattle.ua_climb.proofs.searches.Marks.next_level.Goals as goal

pub loop-state-preserved : goal.loop-state-preserved
loop-state-preserved c = opens_more _ _ _ _ _ _ _ _ _ _ _ _ c.loop-state.invariant c.loop-state-test.true c.in_ok-open.ensures
