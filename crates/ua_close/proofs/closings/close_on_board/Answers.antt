use Rattle.std.proofs.Common.{ℕ, List, sym, subst}
use Rattle.ua_table.specs.Numbering.{Fits}
use Rattle.ua_close.proofs.EnoughLaws.{fits_within}
use Rattle.ua_close.proofs.closings.close_on_board.Goals as goal

pub start-requires-clause-fits : goal.start-requires-clause-fits
start-requires-clause-fits g c =
    let budget = c.args.run.now.budget in
    let fits = subst (λ (q : List ℕ × ℕ). Fits q.0 q.1 budget) (λ i. (sym c.in_ok-shape.ensures.arities i, sym c.len.ensures i)) c.requires.fits in
    fits_within c.in_ok-shape.shape c.len.result budget c.records_for-records.result c.records_for-records.ensures.enough.within fits
