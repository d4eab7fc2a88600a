use Rattle.std.proofs.Common.{◌≡◌, ◌<◌, ◌≤◌, get_or, map, subst, sym, ap, ◌∙◌, arith}
use Rattle.std.specs.List.{AllByRecursion}
use Rattle.std.proofs.lemmas.List.{take_all}
use Rattle.ua_table.proofs.Lists.{all_get_or}
use Rattle.ua_identity.specs.Conditions.{IsCondition}
use Rattle.ua_answer_conditions.specs.ConditionCommand.{numbers_in, variables_in, identity_of}
use Rattle.ua_answer_conditions.proofs.WrittenConditions.{all_named, few_places, is_condition}
use Rattle.ua_answer_conditions.proofs.condition.condition_of.Goals as goal

pub identity_of-requires-clause-named : goal.identity_of-requires-clause-named
identity_of-requires-clause-named c =
    let is = c.args.identities.now in
    let i = c.identity-item.result in
    subst (λ i. AllByRecursion (λ v. v < c.variables_in-variables.result) (numbers_in i)) (sym c.identity-item.is)
    (subst (λ n. AllByRecursion (λ v. v < n) (numbers_in (get_or is c.loop-identity.identity-index i))) (sym c.variables_in-variables.ensures.variables)
    (all_get_or (λ i. AllByRecursion (λ v. v < variables_in is) (numbers_in i)) is c.loop-identity.identity-index i c.loop-identity-test.true (all_named is)))

pub overflow_cast-arity : goal.overflow_cast-arity
overflow_cast-arity c =
    let few = few_places c.args.arity c.args.identities.now c.requires.checks in
    omega arith

pub unreachable-requires : goal.unreachable-requires
unreachable-requires c =
    let k = c.args.arity in
    let is = c.args.identities.now in
    let few = c.variables_in-variables.ensures in
    let whole = take_all c.loop-identity.identity-index is c.loop-identity-test.false in
    let all : c.loop-identity.made.items ≡ map (identity_of (variables_in is)) is =
    c.loop-identity.invariant ∙ ap (map (identity_of c.variables_in-variables.result)) whole ∙ ap (λ n. map (identity_of n) is) few.variables in
    let made = subst (λ is. IsCondition (record { arity = k.value; identities = is })) (sym all) (is_condition k is c.requires.checks c.requires.some (subst (λ n. n ≤ 4) few.variables few.small)) in
    let none = c.in_default.ensures.made.1 made in
    cc
