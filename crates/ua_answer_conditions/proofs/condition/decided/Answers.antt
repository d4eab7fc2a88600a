use Rattle.std.proofs.Common.{subst}
use Rattle.ua_cond.specs.Permitted.{MayDecide}
use Rattle.ua_answer_conditions.proofs.condition.decided.Goals as goal

pub returns : goal.returns
returns g c =
    let run = c.args.context.now.run.now in
    subst (λ given. MayDecide c.args.known.now.algebra given run.budget run.workers c.decide_rule.result) c.in_ok-condition.ensures
    (subst (λ a. MayDecide a c.in_ok-condition.condition run.budget run.workers c.decide_rule.result) c.algebra.ensures c.decide_rule.ensures.permitted)
