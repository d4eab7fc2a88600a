use Rattle.std.proofs.Common.{◌≡◌, length, sym, ap, ◌∙◌, subst, arith}
use Rattle.std.specs.List.{AllByRecursion}
use Rattle.ua_table.specs.Algebras.{arities_of}
use Rattle.ua_term.specs.Steps.{AreSteps}
use Rattle.ua_identity.specs.Identities.{TermIdentity}
use Rattle.ua_identity.specs.Conditions.{TermCondition}
use Rattle.ua_flaws.specs.Flaws.{Tells}
use Rattle.ua_check.proofs.ConditionLaws.{arity_is, places_fit, few_identities, over_x_y, condition_told}
use Rattle.ua_check.proofs.conditions.condition_flaws.Goals as goal

pub identities-requires-clause-steps : goal.identities-requires-clause-steps
identities-requires-clause-steps c =
    let fit = places_fit c.args.a.now c.args.name c.args.k c.in_ok-condition.ensures.told in
    let arity : c.in_ok-condition.condition.arity ≡ c.args.k = ap (λ (t : TermCondition). t.arity) c.in_ok-condition.ensures.condition ∙ arity_is c.args.name c.args.k fit in
    subst (λ n. AreSteps (arities_of c.args.a.now) n c.as_slice.result.now) (sym arity)
    (subst (AreSteps (arities_of c.args.a.now) c.args.k) (sym (c.as_slice.ensures.value ∙ c.in_ok-steps.ensures.read)) (c.written.ensures.steps c.args.a.now c.args.k _ c.args.steps.now c.in_ok-steps.ensures.told))

pub identities-requires-clause-few : goal.identities-requires-clause-few
identities-requires-clause-few c =
    let fit = places_fit c.args.a.now c.args.name c.args.k c.in_ok-condition.ensures.told in
    let few = few_identities c.args.name c.args.k fit in
    let same = ap (λ (t : TermCondition). length t.identities) c.in_ok-condition.ensures.condition in
    omega (arith, few, same)

pub identities-requires-clause-two : goal.identities-requires-clause-two
identities-requires-clause-two c =
    subst (λ (t : TermCondition). AllByRecursion (λ (i : TermIdentity). i.pattern.variables ≡ 2) t.identities) (sym c.in_ok-condition.ensures.condition) (over_x_y c.args.name c.args.k)

pub returns : goal.returns
returns c =
    subst (λ f. Tells f c.identities.result)
    (condition_told c.args.a.now c.args.name c.args.k c.in_ok-condition.condition c.args.steps.now c.as_slice.result.now
    c.in_ok-condition.ensures.condition (c.as_slice.ensures.value ∙ c.in_ok-steps.ensures.read) c.in_ok-condition.ensures.told
    (sym c.is_empty.ensures ∙ c.if-is_empty.false) c.in_ok-steps.ensures.told)
    c.identities.ensures
