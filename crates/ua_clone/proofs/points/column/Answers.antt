use Rattle.std.proofs.Common.{◌<◌, ◌++◌, ◌∷◌, [], length, sym, ap, ◌∙◌, arith}
use Rattle.std.specs.Prelude.{slice_index}
use Rattle.std.proofs.lemmas.Option.{get_or_from_slice_get}
use Rattle.ua_table.specs.Algebras.{Vector}
use Rattle.ua_clone.proofs.PointLaws.{column_more}
use Rattle.ua_clone.proofs.points.column.Goals as goal

pub loop-i-preserved : goal.loop-i-preserved
loop-i-preserved c =
    let vs = c.args.vectors.now.items in
    let i = c.loop-i.i in
    let l : i < length vs = let m = c.loop-i-test.true in let n = c.len-i-end.ensures in omega (arith, m, n) in
    let entry = ap (λ (v : Vector). slice_index v c.args.place) (sym (get_or_from_slice_get vs i c.get.result.now [] c.get.ensures.vector)) in
    c.in_ok-push.ensures.items ∙ (λ j. c.loop-i.invariant j ++ entry j ∷ []) ∙ sym (column_more vs i c.args.place l)
