use Rattle.std.proofs.Common.{sym, ap, ◌∙◌, subst}
use Rattle.ua_flaws.specs.Flaws.{Tells, not_member_flaw, listing_flaw}
use Rattle.ua_check.specs.Checking.{flaw_of, Holds}
use Rattle.ua_check.proofs.checking.check.Goals as goal

pub returns-in-NotMember-clause-told : goal.returns-in-NotMember-clause-told
returns-in-NotMember-clause-told c =
    let a = c.args.a.now in let x = c.in-NotMember in
    subst (λ f. Tells f c.not_member.result)
    ((λ i. not_member_flaw a (c.as_slice-in-NotMember.ensures i) (c.as_slice-in-NotMember-2.ensures i) x.target x.width) ∙ sym (ap (flaw_of a) x.is)) c.not_member.ensures.told

pub returns-in-Listing-clause-told : goal.returns-in-Listing-clause-told
returns-in-Listing-clause-told c =
    let a = c.args.a.now in let x = c.in-Listing in
    subst (λ f. Tells f c.listing.result)
    ((λ i. listing_flaw a (c.as_slice-gens.ensures i) (c.as_slice-origins.ensures i) (c.as_slice-ranks.ensures i) (c.as_slice-rows.ensures i) x.width) ∙ sym (ap (flaw_of a) x.is)) c.listing.ensures.told

pub returns-in-Condition-clause-told : goal.returns-in-Condition-clause-told
returns-in-Condition-clause-told c = subst (λ cert. Tells (flaw_of c.args.a.now cert) c.condition.result) (sym c.in-Condition.is) c.condition.ensures.told

pub returns-in-Condition-clause-holds : goal.returns-in-Condition-clause-holds
returns-in-Condition-clause-holds c ok = subst (Holds c.args.a.now) (sym c.in-Condition.is) (c.condition.ensures.holds ok)

pub returns-in-NoCondition-clause-told : goal.returns-in-NoCondition-clause-told
returns-in-NoCondition-clause-told c = subst (λ cert. Tells (flaw_of c.args.a.now cert) c.no_condition.result) (sym c.in-NoCondition.is) c.no_condition.ensures.told

pub returns-in-NoChain-clause-told : goal.returns-in-NoChain-clause-told
returns-in-NoChain-clause-told c = subst (λ cert. Tells (flaw_of c.args.a.now cert) c.no_chain.result) (sym c.in-NoChain.is) c.no_chain.ensures.told
