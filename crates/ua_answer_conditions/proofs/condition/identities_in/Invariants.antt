use Rattle.std.proofs.Common.{take}
use Rattle.ua_reply.specs.Checks.{AreFirst, all_in}
use Rattle.ua_answer_conditions.specs.ConditionCommand.{identity_in}
use Rattle.ua_answer_conditions.proofs.condition.identities_in.Given as goal

abbrev pub invariant-loop-identity : goal.invariant-loop-identity
invariant-loop-identity l = AreFirst (all_in (identity_in l.arity) (take l.identity-index l.identities)) l.errors
