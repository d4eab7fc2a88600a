use Rattle.std.proofs.Common.{take}
use Rattle.ua_climb.specs.inner.Marks.{Enters}
use Rattle.ua_climb.proofs.searches.enter.Given as goal

abbrev pub invariant-loop-member : goal.invariant-loop-member
invariant-loop-member l = Enters l.state (take l.member-index l.members) l.initial.from l.initial.next.items l.from l.next.items
