use Rattle.std.proofs.Common.{[], ◌∷◌, take}
use Rattle.ua_reply.specs.Checks.{AreFirst}
use Rattle.ua_answer_conditions.specs.ArgumentSets.{HoldsThese}
use Rattle.ua_answer_conditions.specs.CloneCommand.{points_in}
use Rattle.ua_answer_conditions.proofs.WrittenTables.{seen}
use Rattle.ua_answer_conditions.proofs.clone.points_in.Given as goal

abbrev pub invariant-loop-v : goal.invariant-loop-v
invariant-loop-v l = record {
  errors : AreFirst (points_in l.known l.k [] (l.first ∷ take l.v-index l.others)) l.errors;
  seen : HoldsThese l.seen (seen l.known l.k [] (l.first ∷ take l.v-index l.others));
}
