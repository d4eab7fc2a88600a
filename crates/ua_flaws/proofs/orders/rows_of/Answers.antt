use Rattle.std.proofs.Common.{◌≡◌, take, length, refl, ap, ◌∙◌, subst, arith}
use Rattle.std.specs.Prelude.{Contains}
use Rattle.std.proofs.lemmas.Option.{slice_get_read}
use Rattle.ua_table.specs.Algebras.{Vector}
use Rattle.ua_table.proofs.Lists.{written_back}
use Rattle.ua_flaws.proofs.OrderLaws.{row_new, rows_increase}
use Rattle.ua_flaws.proofs.orders.rows_of.Goals as goal

pub push-requires-clause-new : goal.push-requires-clause-new
push-requires-clause-new c h =
    let v : Vector = c.row-item.result in
    let new = c.write.new.out in
    let old = c.loop-row.vector.items in
    let wrote : new ≡ v = c.write.ensures ∙ c.as_slice.ensures in
    let kept : length new ≡ length old = c.write.auto.out ∙ ap length c.as_mut_slice.ensures.value in
    let len : c.loop-row.vector.len ≡ length old = c.loop-row.vector.ok.0 in
    let same : c.as_slice-in-loop-row.result.now ≡ v = c.as_slice-in-loop-row.ensures.value ∙ written_back old new c.loop-row.vector.len kept len ∙ wrote in
    let held : Contains (take c.loop-row.row-index c.args.rows.now) v = subst (λ w. Contains (take c.loop-row.row-index c.args.rows.now) w) same (subst (λ vs. Contains vs c.as_slice-in-loop-row.result.now) c.loop-row.invariant.items h) in
    row_new c.args.rows.now c.loop-row.row-index v (rows_increase c.args.rows.now c.requires.order)
    (slice_get_read c.args.rows.now (length c.args.rows.now) c.loop-row.row-index v refl (let l = c.loop-row-test.true in omega arith)
    c.row-item.is)
    held
