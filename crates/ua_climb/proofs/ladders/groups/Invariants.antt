use Rattle.std.proofs.Common.{ℕ, map, Vec}
use Rattle.std.specs.declared.alloc.Global.{Global}
use Rattle.ua_climb.specs.inner.Sides.{AreGroups}
use Rattle.ua_climb.proofs.ladders.groups.Given as goal

abbrev pub invariant-loop-row : goal.invariant-loop-row
invariant-loop-row l = AreGroups l.allowed l.links.enters l.links.classes l.first l.row (map (λ (v : Vec ℕ Global). v.items) l.groups.items)
