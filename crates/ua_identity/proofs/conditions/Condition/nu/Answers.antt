use Rattle.std.proofs.Common.{◌∷◌, [], ◌++◌, List, sym, ◌∙◌, subst, arith}
use Rattle.std.proofs.lemmas.List.FromFn.{map-range_with_len_more}
use Rattle.ua_identity.specs.Identities.{TermIdentity}
use Rattle.ua_identity.specs.Conditions.{IsCondition, near_unanimous}
use Rattle.ua_identity.proofs.NamedLaws.{near_unanimity_is, all_near_unanimous}
use Rattle.ua_identity.proofs.conditions.Condition.nu.Goals as goal

pub loop-i-preserved : goal.loop-i-preserved
loop-i-preserved c =
    c.in_ok-push.ensures.items
    ∙ (λ j. c.loop-i.invariant j ++ c.in_ok-near_unanimous.ensures j ∷ [])
    ∙ sym (map-range_with_len_more (near_unanimous c.args.k) 0 c.loop-i.i c.loop-i.i (omega arith))

pub invariant_of-result : goal.invariant_of-result
invariant_of-result c =
    let some = c.requires.some in
    let end = c.loop-i-test.false in
    let auto = c.loop-i.auto.i-end in
    subst (λ (is : List TermIdentity). IsCondition (record { arity = c.args.k; identities = is }))
    (sym (c.loop-i.invariant ∙ all_near_unanimous c.args.k c.loop-i.i (omega (arith, end, auto))))
    (near_unanimity_is c.args.k (omega (arith, some)) c.requires.small)
