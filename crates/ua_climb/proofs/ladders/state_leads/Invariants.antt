use Rattle.std.proofs.Common.{◌≡◌, ◌+◌, ◌++◌, map, take}
use Rattle.ua_climb.proofs.ladders.state_leads.Given as goal

abbrev pub invariant-loop-class : goal.invariant-loop-class
invariant-loop-class l = l.leads.items ≡ l.even.leads ++ map (λ c. l.even.classes + c) (take l.class-index l.class-items)
