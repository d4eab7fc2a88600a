use Rattle.std.proofs.Common.{◌∷◌, ◌++◌, [], Some, ap, ◌∙◌, sym}
use Rattle.ua_table.specs.Listings.{vectors_of}
use Rattle.ua_certify.proofs.Loops.{taken_more}
use Rattle.ua_certify.proofs.parts.rows.Goals as goal

pub loop-i-preserved : goal.loop-i-preserved
loop-i-preserved c =
    c.in_ok-push.ensures.items ∙ ap (λ xs. xs ++ c.in_ok-numbers.field-0 ∷ []) c.loop-i.invariant
    ∙ taken_more (vectors_of c.args.listing.now) c.loop-i.i c.in_ok-numbers.field-0 (c.row.ensures ∙ ap Some (sym c.in_ok-numbers.ensures))
