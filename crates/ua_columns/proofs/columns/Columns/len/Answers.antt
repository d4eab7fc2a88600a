use Rattle.std.proofs.Common.{ap, sym, ◌∙◌, length}
use Rattle.std.proofs.lemmas.List.FromFn.{length-map-range_with_len}
use Rattle.ua_columns.specs.Columns.{VectorColumns, vector_in}
use Rattle.ua_columns.proofs.columns.Columns.len.Goals as goal

pub returns-clause-len : goal.returns-clause-len
returns-clause-len c =
    let here = c.self.inside in
    sym (length-map-range_with_len (vector_in here.width here.tiles.items) 0 here.count) ∙ ap (λ (v : VectorColumns). length v.items) c.self.view_is
