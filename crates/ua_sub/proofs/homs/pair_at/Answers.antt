use Rattle.std.proofs.Common.{◌≡◌, Some, ap, sym, refl, ◌∙◌, length}
use Rattle.ua_table.specs.Algebras.{Vector}
use Rattle.ua_table.specs.Listings.{vectors_of}
use Rattle.ua_table.proofs.Lists.{All-slice_get}
use Rattle.ua_sub.proofs.HomLaws.{by_entries}
use Rattle.ua_sub.proofs.homs.pair_at.Goals as goal

pub returns : goal.returns
returns c =
    let v = c.row-row.result.now in
    c.row-row.ensures ∙ ap Some (sym (by_entries v _ _ (All-slice_get (λ (w : Vector). length w ≡ 2) (vectors_of c.args.list.now) c.args.i v c.requires.widths c.row-row.ensures) refl refl))
