use Rattle.std.proofs.Common.{◌^◌, ◌<◌, length, ap, subst, arith}
use Rattle.std.specs.Option.{IfSome}
use Rattle.ua_identity.specs.Chains.{ChainKind}
use Rattle.ua_identity.specs.Patterns.{all_fillings}
use Rattle.ua_identity.proofs.FillingLaws.{one_narrow}
use Rattle.ua_identity.proofs.kinds.Kind.own_values.Goals as goal

pub append_values-requires-clause-narrow : goal.append_values-requires-clause-narrow
append_values-requires-clause-narrow c =
    let ps = c.self.inside.patterns.items in
    let within = subst (λ own. IfSome own (λ m. m < length ps)) c.in-Some.is c.self.invariant.own_named in
    let low = one_narrow c.args.size ps c.in-Some.m c.index-pattern.result.now within c.index-pattern.ensures in
    let count = ap (λ k. c.args.size ^ k) c.variables.ensures.variables in
    let same = ap (λ (kind : ChainKind). length (all_fillings c.args.size kind.patterns)) c.self.view_is in
    let narrow = c.requires.narrow in
    omega (arith, count, low, same, narrow)
