use Rattle.std.proofs.Common.{◌≡◌, ◌^◌, ◌<◌, List, length, get_or, ap, ◌∙◌, subst, arith}
use Rattle.std.proofs.lemmas.List.{length-replicate}
use Rattle.ua_identity.specs.Identities.{VariablePattern, TermIdentity}
use Rattle.ua_identity.specs.Patterns.{all_fillings, patterns_of}
use Rattle.ua_identity.proofs.RowLaws.{row_narrow}
use Rattle.ua_identity.proofs.conditions.Condition.value_row.Goals as goal

pub append_values-requires-clause-narrow : goal.append_values-requires-clause-narrow
append_values-requires-clause-narrow c =
    let same = c.identities-identity-items.ensures.identities in
    let test : c.loop-identity.identity-index < length c.args.self.now.identities = subst (λ (js : List TermIdentity). c.loop-identity.identity-index < length js) same c.loop-identity-test.true in
    let stands : c.identity-item.result ≡ get_or c.args.self.now.identities c.loop-identity.identity-index c.identity-item.result =
    c.identity-item.is ∙ ap (λ (js : List TermIdentity). get_or js c.loop-identity.identity-index c.identity-item.result) same in
    let i = c.identity-item.result in
    let low = row_narrow (λ (j : TermIdentity). j.pattern) c.args.a.now.size c.args.self.now.identities c.loop-identity.identity-index i test stands in
    let same : c.size-size.result ^ c.variables-variables.result ≡ c.args.a.now.size ^ i.pattern.variables =
    (λ j.
    c.size-size.ensures.size j ^ (c.variables-variables.ensures.variables ∙ ap (λ (p : VariablePattern). p.variables) c.pattern.ensures.pattern)
    j) in
    let all = c.requires in
    let width = length-replicate (length (all_fillings c.args.a.now.size (patterns_of c.args.self.now))) c.args.a.now in
    omega (arith, low, same, all, width)
