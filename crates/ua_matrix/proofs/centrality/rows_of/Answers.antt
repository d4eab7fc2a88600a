use Rattle.std.proofs.Common.{List, [], ◌∷◌, ◌++◌, take, sym, ap, ◌∙◌}
use Rattle.std.proofs.lemmas.List.{take_more}
use Rattle.std.proofs.lemmas.Option.{slice_get_within, get_or_from_slice_get}
use Rattle.ua_table.specs.Algebras.{Vector}
use Rattle.ua_table.specs.Listings.{vectors_of}
use Rattle.ua_table.specs.VectorLists.{VectorList}
use Rattle.ua_matrix.proofs.centrality.rows_of.Goals as goal

pub loop-i-preserved : goal.loop-i-preserved
loop-i-preserved c =
    let vs = vectors_of c.args.list.now in
    let row = c.row.result.now in
    let at = get_or_from_slice_get vs c.loop-i.i row row c.row.ensures in
    let w = slice_get_within vs c.loop-i.i row c.row.ensures in
    record {
      width = ap (λ (v : VectorList). v.width) c.in_ok-add.ensures.ok ∙ c.loop-i.invariant.width;
      items = ap (λ (v : VectorList). v.items) c.in_ok-add.ensures.ok
          ∙ ap (λ (ms : List Vector). ms ++ row ∷ []) c.loop-i.invariant.items
          ∙ sym (take_more vs c.loop-i.i row w ∙ ap (λ (r : Vector). take c.loop-i.i vs ++ r ∷ []) at);
    }
