use Rattle.std.proofs.Common.{◌↔◌, sym, ap, ◌∙◌, subst}
use Rattle.std.specs.Prelude.{IsTrue}
use Rattle.std.specs.Ordering.{is_lt}
use Rattle.ua_table.specs.declared.origins.Origin.{Origin}
use Rattle.ua_table.specs.declared.origins.Origin.TheVariants.{Op}
use Rattle.ua_listing.specs.inner.Searches.{IsBefore}
use Rattle.ua_listing.proofs.SearchLaws.{same_operation}
use Rattle.ua_listing.proofs.searches.is_before.Goals as goal

pub returns-else-op-f : goal.returns-else-op-f
returns-else-op-f c =
    let ks = c.args.shape.now in
    let f = c.in-Op-Op.op in
    let here : IsTrue c.is_lt.result ↔ IsBefore ks (Op f c.in-Op-Op.args) (Op f c.in-Op-Op.others) =
    same_operation ks f c.from-arity.result c.in-Op-Op.args c.in-Op-Op.others c.is_lt.result (c.from-arity.ensures ∙ c.arity.ensures.arity)
    (c.is_lt.ensures ∙ ap is_lt c.cmp.ensures) in
    subst (λ (x : Origin × Origin). IsTrue c.is_lt.result ↔ IsBefore ks x.0 x.1) (λ i. (sym c.in-Op-Op.is-0 i, (ap (λ g. Op g c.in-Op-Op.others) c.if-op-f.false ∙ sym c.in-Op-Op.is-1) i)) here
