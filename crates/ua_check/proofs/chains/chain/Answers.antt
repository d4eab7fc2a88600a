use Rattle.std.proofs.Common.{ap, subst, ◌∙◌}
use Rattle.ua_table.specs.Refusals.{first_refusal}
use Rattle.ua_identity.specs.Chains.{ChainKind}
use Rattle.ua_flaws.specs.Flaws.{Tells}
use Rattle.ua_check.specs.Chains.{chain_flaw, chain_lines}
use Rattle.ua_flaws.proofs.ShapeLaws.{told_none}
use Rattle.ua_check.proofs.ChainLaws.{three_places, chain_holds}
use Rattle.ua_check.proofs.chains.chain.Goals as goal

pub chain_flaws-requires-clause-three : goal.chain_flaws-requires-clause-three
chain_flaws-requires-clause-three c = ap (λ (kind : ChainKind). kind.places) c.in_ok-kind.ensures ∙ three_places c.args.name

pub returns-clause-told : goal.returns-clause-told
returns-clause-told c = subst (λ f. Tells f c.chain_flaws.result) (λ i. first_refusal (chain_lines c.args.a.now (c.in_ok-kind.ensures i) (c.as_slice.ensures i))) c.chain_flaws.ensures

pub returns-clause-holds : goal.returns-clause-holds
returns-clause-holds c ok =
    chain_holds c.written.ensures.term c.args.a.now c.args.name c.args.terms.now (told_none (chain_flaw c.args.a.now c.args.name c.args.terms.now) c.chain_flaws.result (returns-clause-told c) ok)
