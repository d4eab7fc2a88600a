use Rattle.std.proofs.Common.{◌≡◌, map}
use Rattle.std.specs.List.{range_with_len}
use Rattle.ua_identity.specs.Conditions.{near_unanimous}
use Rattle.ua_identity.proofs.conditions.Condition.nu.Given as goal

-- the identities so far
abbrev pub invariant-loop-i : goal.invariant-loop-i
invariant-loop-i l = l.identities.items ≡ map (near_unanimous l.k) (range_with_len 0 l.i)
