use Rattle.std.proofs.Common.{◌≡◌, ◌*◌, ◌<◌, ◌≤◌, length, take, sym, ap, ◌∙◌, subst, arith}
use Rattle.std.specs.List.{AllByRecursion}
use Rattle.ua_rows.specs.RowLists.{rows_at}
use Rattle.ua_rows.proofs.ApplyForms.{rows_at-vectors, has_operation, size_is, arity_is, entries_below}
use Rattle.ua_columns.specs.Columns.{limit}
use Rattle.ua_lanes.specs.inner.Lines.{scale_at}
use Rattle.ua_lanes.proofs.LineLaws.{size_most, some_scale, scale_fits, zeros_across, line_past, line_is}
use Rattle.ua_lanes.proofs.lines.line_of.Goals as goal

pub op-table-requires : goal.op-table-requires
op-table-requires g c = has_operation c.args.frame.now c.args.op c.args.x c.algebra_at.result.now c.algebra_at.ensures.product c.algebra_at.ensures.algebra c.requires.operation

pub line_at-requires : goal.line_at-requires
line_at-requires g c =
    let p = c.args.frame.now in
    let a = c.algebra_at.result.now in
    let product = c.algebra_at.ensures.product in
    let at = c.algebra_at.ensures.algebra in
    let table = c.op-table.result.now in
    let here = c.op-table.ensures.operation in
    let items = c.args.columns.now.items in
    let size : table.size ≡ a.size = size_is p c.args.op c.args.x a product at table here in
    let limited : a.size ≤ limit c.args.columns.now.in_bytes = size_most (limit c.args.columns.now.in_bytes) p c.args.x a c.requires.vectors.sizes at in
    let most : table.size ≤ limit c.args.columns.now.in_bytes = omega (arith, size, limited) in
    let parts = c.requires.parts in
    let room = c.requires.limit in
    let scale : c.scale_of-scale.result ≡ scale_at c.args.columns.now.in_bytes c.args.x = c.scale_of-scale.ensures.scale ∙ ap (λ b. scale_at b c.args.x) c.is_in_bytes.ensures in (
      (let f : g.row.PARTS * 16 < 9223372036854775808 = omega (arith, parts) in f),
      (
        c.requires.parts,
        (
          c.requires.few,
          (
            c.requires.arity ∙ arity_is p c.args.op c.args.x a product at table here,
            (
              c.requires.free,
              (
                subst (AllByRecursion (λ x. x < table.size)) (sym c.entries_at-entries.ensures)
                    (entries_below p c.args.op c.args.x a product at table here (rows_at items c.args.args.now) (rows_at-vectors p items (length items) c.args.args.now (omega arith) c.requires.vectors.vectors c.requires.named)),
                (
                  omega (arith, most, room),
                  (
                    subst (λ n. 0 < n) (sym scale) (some_scale c.args.columns.now.in_bytes c.args.x),
                    subst (λ n. table.size * n ≤ 256) (sym scale) (scale_fits c.args.columns.now.in_bytes c.args.x table.size most),
                  ),
                ),
              ),
            ),
          ),
        ),
      ),
    )

pub returns-then-x-width-clause-values : goal.returns-then-x-width-clause-values
returns-then-x-width-clause-values g c y low =
    let past : length c.args.frame.now ≤ c.args.x = (let w = c.width.ensures.width in let t = c.if-x-width.true in omega (arith, w, t)) in
    let none = line_past c.args.frame.now c.args.op (rows_at c.args.columns.now.items c.args.args.now) c.args.free c.args.x y past in
    let times : scale_at c.args.columns.now.in_bytes c.args.x * 0 ≡ 0 = omega arith in
    zeros_across g.row.PARTS y ∙ sym (ap (λ n. scale_at c.args.columns.now.in_bytes c.args.x * n) none ∙ times)

pub returns-clause-values : goal.returns-clause-values
returns-clause-values g c y low =
    let scale : c.scale_of-scale.result ≡ scale_at c.args.columns.now.in_bytes c.args.x = c.scale_of-scale.ensures.scale ∙ ap (λ b. scale_at b c.args.x) c.is_in_bytes.ensures in
    let line = line_is c.args.frame.now c.args.op c.args.x c.algebra_at.result.now c.op-table.result.now c.algebra_at.ensures.product c.algebra_at.ensures.algebra c.op-table.ensures.operation
    (rows_at c.args.columns.now.items c.args.args.now) c.args.free y (take (length c.args.args.now) c.entries_at-entries.result) c.entries_at-entries.ensures in
    c.line_at.ensures.values y low ∙ (λ i. scale i * line i)
