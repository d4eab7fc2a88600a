use Rattle.std.proofs.Common.{◌≡◌, take}
use Rattle.std.specs.List.{flat_map}
use Rattle.ua_identity.proofs.ConditionLaws.{values}
use Rattle.ua_identity.proofs.conditions.Condition.value_row.Given as goal

-- the values under the identities so far
abbrev pub invariant-loop-identity : goal.invariant-loop-identity
invariant-loop-identity l = l.row.items ≡ flat_map (values l.a.size) (take l.identity-index l.self.identities)
