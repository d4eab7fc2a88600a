use Rattle.std.proofs.Common.{subst}
use Rattle.ua_flaws.specs.Flaws.{Tells}
use Rattle.ua_check.specs.Conditions.{condition_of, no_condition_flaw}
use Rattle.ua_flaws.proofs.ShapeLaws.{told_none}
use Rattle.ua_check.proofs.ConditionLaws.{no_condition_holds}
use Rattle.ua_check.proofs.conditions.no_condition.Goals as goal

pub returns-clause-told : goal.returns-clause-told
returns-clause-told c = subst (λ rows. Tells (no_condition_flaw c.args.a.now c.args.name c.args.k rows) c.no_condition_flaws.result) c.as_slice.ensures c.no_condition_flaws.ensures.told

pub returns-clause-holds : goal.returns-clause-holds
returns-clause-holds c ok =
    no_condition_holds c.generated.ensures.outside c.args.a.now c.args.name c.args.k c.args.rows.now
    (c.conditions.ensures.member c.args.a.now (condition_of c.args.name c.args.k) c.size-size.ensures.algebra.algebra.inhabited (c.no_condition_flaws.ensures.condition ok))
    (told_none (no_condition_flaw c.args.a.now c.args.name c.args.k c.args.rows.now) c.no_condition_flaws.result (returns-clause-told c) ok)
