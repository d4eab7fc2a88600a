use Rattle.std.proofs.Common.{take}
use Rattle.ua_reply.specs.Checks.{all_in}
use Rattle.ua_reply.proofs.CheckLaws.{first_more}
use Rattle.ua_answer_conditions.specs.ConditionCommand.{identity_in}
use Rattle.ua_answer_conditions.proofs.condition.identities_in.Goals as goal

pub loop-identity-preserved : goal.loop-identity-preserved
loop-identity-preserved c =
    let k = c.args.arity in
    let is = c.args.identities.now in
    let n = c.loop-identity.identity-index in
    let i = c.identity-item.result in
    first_more (identity_in k) is n i c.and-errors.result c.loop-identity-test.true c.identity-item.is (c.and-errors.ensures.first (all_in (identity_in k) (take n is)) (identity_in k i) c.loop-identity.invariant c.identity_in.ensures)
