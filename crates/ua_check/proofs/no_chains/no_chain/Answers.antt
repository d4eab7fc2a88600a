use Rattle.std.proofs.Common.{subst}
use Rattle.ua_flaws.specs.Flaws.{Tells}
use Rattle.ua_check.specs.Reached.{no_chain_flaw}
use Rattle.ua_flaws.proofs.ShapeLaws.{told_none}
use Rattle.ua_check.proofs.NoChainLaws.{no_chain_holds}
use Rattle.ua_check.proofs.no_chains.no_chain.Goals as goal

pub returns-clause-told : goal.returns-clause-told
returns-clause-told c =
    subst (λ f. Tells f c.no_chain_flaws.result)
    (λ i. no_chain_flaw c.args.a.now c.args.name (c.as_slice.ensures i) (c.as_slice-2.ensures i) (c.as_slice-3.ensures i)) c.no_chain_flaws.ensures

pub returns-clause-holds : goal.returns-clause-holds
returns-clause-holds c ok =
    no_chain_holds c.args.a.now c.args.name c.args.rows.now c.args.even.now c.args.odd.now c.generated.ensures.all c.size-size.ensures.algebra.algebra.inhabited
    (told_none (no_chain_flaw c.args.a.now c.args.name c.args.rows.now c.args.even.now c.args.odd.now) c.no_chain_flaws.result (returns-clause-told c) ok)
