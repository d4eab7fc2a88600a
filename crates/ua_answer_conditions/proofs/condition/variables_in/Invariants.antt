use Rattle.std.proofs.Common.{◌≡◌, ◌<◌, max, take}
use Rattle.std.specs.Prelude.{fold}
use Rattle.std.specs.List.{flat_map}
use Rattle.ua_answer_conditions.specs.ConditionCommand.{numbers_in}
use Rattle.ua_answer_conditions.proofs.condition.variables_in.Given as goal

-- the greatest so far
abbrev pub invariant-loop-identity : goal.invariant-loop-identity
invariant-loop-identity l = record {
  greatest : l.greatest ≡ fold max 0 (flat_map numbers_in (take l.identity-index l.identities));
  small : l.greatest < 4;
}
