use Rattle.std.proofs.Common.{◌≡◌, ◌||◌, length, sym, ap, ◌∙◌, subst, arith}
use Rattle.std.specs.List.{AllByRecursion}
use Rattle.ua_flaws.specs.Flaws.{Tells}
use Rattle.ua_identity.specs.Patterns.{all_fillings}
use Rattle.ua_check.specs.Chains.{is_without_term}
use Rattle.ua_check.specs.inner.Chains.{AreStepsWithin}
use Rattle.ua_check.proofs.ChainLaws.{are_term_steps, chain_narrow, chain_told}
use Rattle.ua_check.proofs.chains.chain_flaws.Goals as goal

pub links-requires-clause-terms : goal.links-requires-clause-terms
links-requires-clause-terms c =
    let without = sym c.is_without_term.ensures ∙ c.if-is_without_term.false in
    let room : length c.as_mut_slice.result.now ≡ c.most_steps.result = c.as_mut_slice.ensures.len ∙ c.in_ok-values.ensures.len in
    subst (λ n. AllByRecursion (AreStepsWithin c.args.a.now n) c.as_slice.result.now) (sym room)
    (subst (AllByRecursion (AreStepsWithin c.args.a.now c.most_steps.result)) (sym (c.as_slice.ensures.value ∙ c.in_ok-list.ensures.read))
    (are_term_steps c.written.ensures.steps c.args.a.now c.most_steps.result c.args.terms.now without c.most_steps.ensures c.in_ok-list.ensures.told))

pub returns : goal.returns
returns c =
    let without = sym c.is_without_term.ensures ∙ c.if-is_without_term.false in
    let test = c.if-width_of-from.false in let limit = c.from.ensures in
    let width : c.width_of.result ≡ length (all_fillings c.args.a.now.size c.args.kind.now.patterns)
    = c.width_of.ensures.width ∙ (λ i. length (all_fillings (c.size.ensures.size i) (c.patterns-patterns.ensures.patterns i))) in
    let narrow = chain_narrow c.args.a.now c.args.kind.now c.width_of.result (omega arith) width in
    let fits = ap (λ b. b || is_without_term c.args.terms.now) narrow ∙ without in
    subst (λ f. Tells f c.links.result) (chain_told c.args.a.now c.args.kind.now c.args.terms.now c.as_slice.result.now c.requires.three fits c.in_ok-list.ensures.told (c.as_slice.ensures.value ∙ c.in_ok-list.ensures.read)) c.links.ensures
