use Rattle.std.proofs.Common.{subst}
use Rattle.ua_flaws.specs.Flaws.{Tells}
use Rattle.ua_check.specs.Conditions.{condition_flaw}
use Rattle.ua_flaws.proofs.ShapeLaws.{told_none}
use Rattle.ua_check.proofs.ConditionLaws.{condition_holds}
use Rattle.ua_check.proofs.conditions.condition.Goals as goal

pub returns-clause-told : goal.returns-clause-told
returns-clause-told c = subst (λ steps. Tells (condition_flaw c.args.a.now c.args.name c.args.k steps) c.condition_flaws.result) c.as_slice.ensures c.condition_flaws.ensures

pub returns-clause-holds : goal.returns-clause-holds
returns-clause-holds c ok =
    condition_holds c.written.ensures.steps c.written.ensures.term c.args.a.now c.args.name c.args.k c.args.steps.now
    (told_none (condition_flaw c.args.a.now c.args.name c.args.k c.args.steps.now) c.condition_flaws.result (returns-clause-told c) ok)
