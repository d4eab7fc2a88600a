use Rattle.std.proofs.Common.{◌≡◌, ◌<◌, max, map, take}
use Rattle.std.specs.Prelude.{fold}
use Rattle.ua_answer_conditions.specs.ConditionCommand.{number_of}
use Rattle.ua_answer_conditions.proofs.condition.greatest_in.Given as goal

-- the greatest so far
abbrev pub invariant-loop-v : goal.invariant-loop-v
invariant-loop-v l = record {
  greatest : l.greatest ≡ fold max (max l.fn.greatest (number_of l.fn.identity.value)) (map number_of (take l.v-index l.v-items));
  small : l.greatest < 4;
}
