use Rattle.std.proofs.Common.{◌≡◌, map, take}
use Rattle.ua_answer_conditions.specs.ConditionCommand.{identity_of}
use Rattle.ua_answer_conditions.proofs.condition.condition_of.Given as goal

-- those so far are made
abbrev pub invariant-loop-identity : goal.invariant-loop-identity
invariant-loop-identity l = l.made.items ≡ map (identity_of l.variables) (take l.identity-index l.identities)
