use Rattle.std.proofs.Common.{take, []}
use Rattle.ua_climb.specs.Marks.{Opens}
use Rattle.ua_climb.proofs.searches.Marks.next_level.Given as goal

abbrev pub invariant-loop-state : goal.invariant-loop-state
invariant-loop-state l = Opens l.network (take l.state-index l.frontier) l.initial.self.from.items l.initial.self.opened.items [] l.self.from.items l.self.opened.items l.next.items
