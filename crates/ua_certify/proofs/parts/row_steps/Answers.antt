use Rattle.std.proofs.Common.{◌∷◌, ◌++◌, [], Some, ap, ◌∙◌, sym}
use Rattle.ua_table.specs.Listings.{Row}
use Rattle.ua_table.proofs.Lists.{mapped_at, mapped_from}
use Rattle.ua_flaws.specs.Steps.{written_step, row_steps}
use Rattle.ua_certify.proofs.Loops.{taken_more}
use Rattle.ua_certify.proofs.parts.row_steps.Goals as goal

pub loop-i-preserved : goal.loop-i-preserved
loop-i-preserved c =
    let a = c.args.a.now in let rows = c.args.listing.now in let i = c.loop-i.i in
    let r = mapped_from (λ (w : Row). w.origin) rows i c.origin.result c.origin.ensures in
    let here = mapped_at (λ (w : Row). written_step a w.origin) rows i r.0 r.1 ∙ ap (λ o. Some (written_step a o)) r.2 ∙ ap Some (sym c.in_ok-written_step.ensures) in
    c.in_ok-push.ensures.items ∙ ap (λ xs. xs ++ c.in_ok-written_step.field-0 ∷ []) c.loop-i.invariant ∙ taken_more (row_steps a rows) i c.in_ok-written_step.field-0 here
