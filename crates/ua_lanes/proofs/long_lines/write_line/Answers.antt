use Rattle.std.proofs.Common.{◌<◌, length, take, sym, ◌∙◌, subst, arith}
use Rattle.std.specs.List.{AllByRecursion}
use Rattle.ua_rows.specs.RowLists.{rows_at}
use Rattle.ua_rows.proofs.ApplyForms.{rows_at-vectors, has_operation, arity_is, entries_below}
use Rattle.ua_lanes.proofs.LineLaws.{line_is}
use Rattle.ua_lanes.proofs.long_lines.write_line.Goals as goal

pub op-table-requires : goal.op-table-requires
op-table-requires c = has_operation c.args.frame.now c.args.op c.args.x c.algebra_at.result.now c.algebra_at.ensures.product c.algebra_at.ensures.algebra c.requires.operation

pub fill_line-requires-clause-arity : goal.fill_line-requires-clause-arity
fill_line-requires-clause-arity c =
    c.requires.arity ∙ arity_is c.args.frame.now c.args.op c.args.x c.algebra_at.result.now c.algebra_at.ensures.product c.algebra_at.ensures.algebra c.op-table.result.now c.op-table.ensures.operation

pub fill_line-requires-clause-below : goal.fill_line-requires-clause-below
fill_line-requires-clause-below c =
    let items = c.args.quads.now.items in
    subst (AllByRecursion (λ x. x < c.op-table.result.now.size)) (sym c.entries_at-entries.ensures)
    (entries_below c.args.frame.now c.args.op c.args.x c.algebra_at.result.now c.algebra_at.ensures.product c.algebra_at.ensures.algebra c.op-table.result.now c.op-table.ensures.operation
    (rows_at items c.args.args.now) (rows_at-vectors c.args.frame.now items (length items) c.args.args.now (omega arith) c.requires.vectors.vectors c.requires.named))

pub returns-clause-values : goal.returns-clause-values
returns-clause-values c y low =
    c.fill_line.ensures.values y low
    ∙ line_is c.args.frame.now c.args.op c.args.x c.algebra_at.result.now c.op-table.result.now c.algebra_at.ensures.product c.algebra_at.ensures.algebra c.op-table.ensures.operation
    (rows_at c.args.quads.now.items c.args.args.now) c.args.free y (take (length c.args.args.now) c.entries_at-entries.result) c.entries_at-entries.ensures
