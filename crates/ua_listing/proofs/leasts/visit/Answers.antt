use Rattle.std.proofs.Common.{take, sym, ap, ◌∙◌, subst}
use Rattle.std.specs.Prelude.{Contains, slice_index}
use Rattle.ua_table.specs.declared.origins.Origin.TheVariants.{Op}
use Rattle.ua_table.specs.Algebras.{apply}
use Rattle.ua_rows.specs.RowLists.{rows_at}
use Rattle.ua_listing.proofs.VisitLaws.{absent}
use Rattle.ua_listing.proofs.leasts.visit.Goals as goal

pub returns-in-None-clause-reached : goal.returns-in-None-clause-reached
returns-in-None-clause-reached c =
    let t = c.args.table.now in
    absent t.operations t.gens.now.items t.rows.items c.args.search.now c.args.height (Op c.args.op c.args.args) c.requires.search c.requires.top c.requires.origin
    (λ h. c.in-None.ensures.absent (subst (Contains t.rows.items)
    (sym (c.apply.ensures.value ∙ ap (λ k. apply t.operations c.args.op (rows_at t.rows.items (take k c.args.args))) (c.from-arity.ensures ∙ c.arity.ensures.arity ∙ ap (λ ks. slice_index ks c.args.op) c.requires.table.shape)))
    h))
