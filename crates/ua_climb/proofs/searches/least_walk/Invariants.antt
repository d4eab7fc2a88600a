use Rattle.std.proofs.Common.{◌-◌, length}
use Rattle.ua_climb.specs.inner.Marks.{IsSearched}
use Rattle.ua_climb.proofs.searches.least_walk.Given as goal

abbrev pub invariant-loop-marks : goal.invariant-loop-marks
invariant-loop-marks l = IsSearched l.network l.fn.start l.ends l.level l.marks.from.items l.marks.opened.items l.frontier.items

abbrev pub decreases-loop-marks : goal.decreases-loop-marks
decreases-loop-marks l = length l.network.leads - l.level
