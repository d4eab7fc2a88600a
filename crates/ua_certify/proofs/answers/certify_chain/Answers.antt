use Rattle.std.proofs.Common.{◌≡◌, Ok, List, map, ap, ◌∙◌, subst}
use Rattle.ua_chain.specs.declared.chains.Chain.TheVariants as chains
use Rattle.ua_chain.specs.Permitted.{MayChain}
use Rattle.ua_term.specs.Steps.{StepList}
use Rattle.ua_flaws.specs.Steps.{written_steps}
use Rattle.ua_check.specs.Chains.{kind_of, chain_flaw}
use Rattle.ua_check.specs.Reached.{no_chain_flaw}
use Rattle.ua_certify.proofs.Flawless.{chain_flawless, no_chain_flawless}
use Rattle.ua_certify.proofs.answers.certify_chain.Goals as goal

pub returns-in_ok-terms-in-Yes-clause-flawless : goal.returns-in_ok-terms-in-Yes-clause-flawless
returns-in_ok-terms-in-Yes-clause-flawless c = λ b w some h.
    let a = c.args.a.now in let name = c.args.name in let terms = c.in-Yes.terms in
    let is : c.args.answer.now ≡ chains.Yes terms = let e = c.in-Yes.is in cc in
    let may = subst (λ z. MayChain a (kind_of name) b w (Ok z)) is h in
    let t = c.in_ok-terms-in-Yes.ensures ∙ ap (λ (ss : List StepList). map (λ (s : StepList). written_steps a s.items) ss) c.as_slice.ensures.value in
    ap (chain_flaw a name) t ∙ chain_flawless a name b w c.size-size.ensures.algebra some terms c.flawless.ensures.chain may

pub returns-in_ok-from_slice-in-No-2-clause-flawless : goal.returns-in_ok-from_slice-in-No-2-clause-flawless
returns-in_ok-from_slice-in-No-2-clause-flawless c = λ b w some h.
    let a = c.args.a.now in let name = c.args.name in let rows = c.in-No.list in let even = c.in-No.even in let odd = c.in-No.odd in
    let is : c.args.answer.now ≡ chains.No rows even odd = let e = c.in-No.is in cc in
    let may = subst (λ z. MayChain a (kind_of name) b w (Ok z)) is h in
    let r = c.in_ok-rows-in-No.ensures in
    let e = c.new.ensures ∙ c.in_ok-from_slice-in-No.ensures.items ∙ c.as_slice-in-No.ensures.value in
    let o = c.new-in-No.ensures ∙ c.in_ok-from_slice-in-No-2.ensures.items ∙ c.as_slice-in-No-2.ensures.value in
    (λ i. no_chain_flaw a name (r i) (e i) (o i)) ∙ no_chain_flawless a name b w c.size-size.ensures.algebra some rows even odd c.flawless.ensures.no_chain c.kinds.ensures.vectors c.patterns.ensures.wide c.patterns.ensures.places may
