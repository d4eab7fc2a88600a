use Rattle.std.proofs.Common.{[], ap, sym, ◌∙◌}
use Rattle.std.specs.Prelude.{slice_index_or, take}
use Rattle.std.proofs.lemmas.Option.{get_or_from_slice_get}
use Rattle.ua_table.proofs.Lists.{All-slice_get, mapped_at}
use Rattle.ua_table.specs.Algebras.{Vector}
use Rattle.ua_rows.specs.RowLists.{RowList}
use Rattle.ua_rows.specs.Listing.{items_of}
use Rattle.ua_rows.specs.Keys.{IsKey}
use Rattle.ua_rows.specs.Words.{padded}
use Rattle.ua_rows.proofs.ListLaws.{padded_row}
use Rattle.ua_rows.proofs.row_lists.Rows.padded.Goals as goal

pub returns : goal.returns
returns c =
    let here = c.self.inside in
    let row = c.row.result.now in
    let item = mapped_at (λ (r : Vector). take here.width r) here.pages.rows c.args.i row c.row.ensures.row in
    let own : IsKey here.width row = All-slice_get (IsKey here.width) here.pages.rows c.args.i row c.self.invariant.padded c.row.ensures.row in
    padded_row here.width row own (c.row.ensures.stride ∙ c.self.invariant.stride)
    ∙ ap padded (sym (get_or_from_slice_get (items_of here.width here.pages.rows) c.args.i (take here.width row) [] item))
    ∙ ap (λ (l : RowList). padded (slice_index_or l.items c.args.i [])) c.self.view_is
