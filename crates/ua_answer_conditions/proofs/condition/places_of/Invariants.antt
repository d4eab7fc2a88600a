use Rattle.std.proofs.Common.{◌≡◌, map, take}
use Rattle.ua_answer_conditions.specs.ConditionCommand.{number_of}
use Rattle.ua_answer_conditions.proofs.condition.places_of.Given as goal

abbrev pub invariant-loop-v : goal.invariant-loop-v
invariant-loop-v l = l.places.items ≡ map number_of (take l.v-index l.args)
