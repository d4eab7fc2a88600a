use Rattle.ua_work.specs.declared.harvests.Harvest.{Harvest}
use Rattle.ua_close.proofs.HarvestsJoined.{Taking}
use Rattle.ua_close.proofs.gatherings.join_all.Given as goal

abbrev pub invariant-loop-next : goal.invariant-loop-next
invariant-loop-next l = (first : Harvest) × Taking l.fn.board l.fn.harvests.items first l.chosen l.taken l.seat l.rows l.waiting.items

abbrev pub decreases-loop-next : goal.decreases-loop-next
decreases-loop-next l = goal.left-loop-next l
