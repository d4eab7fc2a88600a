use Rattle.std.proofs.Common.{◌+◌, ◌%◌, ◌∙◌, arith}
use Rattle.std.proofs.lemmas.Simd.{length-zip2}
use Rattle.ua_columns.proofs.TileLaws.{sums_below, looked_sum_at}
use Rattle.ua_columns.proofs.tiles.pair.Goals as goal

pub returns-clause-value : goal.returns-clause-value
returns-clause-value c r low =
    looked_sum_at c.args.line.now c.args.column.now c.args.next_line.now c.args.next_column.now c.looked.result c.looked-2.result r low (omega arith) (omega arith)
    c.looked.ensures.value c.looked-2.ensures.value c.looked.ensures.bytes.0 c.looked-2.ensures.bytes.0

pub returns-clause-bytes : goal.returns-clause-bytes
returns-clause-bytes c =
    let a = c.looked.ensures.bytes.0 in
    let b = c.looked-2.ensures.bytes.0 in
    (length-zip2 (λ x y. (x + y) % 256) c.looked.result c.looked-2.result (omega (arith, a, b)) ∙ a, sums_below c.looked.result c.looked-2.result)
