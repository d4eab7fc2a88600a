use Rattle.std.proofs.Common.{refl, sym, ◌∙◌, subst}
use Rattle.std.specs.List.{AllByRecursion}
use Rattle.ua_table.specs.declared.limits.TheConstants.{SIZE}
use Rattle.ua_flaws.specs.Shapes.{IsOver}
use Rattle.ua_flaws.proofs.ShapeLaws.{all_elements, table_over}
use Rattle.ua_flaws.proofs.outside.closed_rows.Goals as goal

pub rows_of-requires-clause-vectors : goal.rows_of-requires-clause-vectors
rows_of-requires-clause-vectors c =
    subst (λ n. AllByRecursion (IsOver SIZE n) c.args.rows.now) (sym c.width.ensures.width)
    (all_elements c.args.a.now.size c.args.gens.now.width c.args.rows.now c.size-size.ensures.algebra.small c.requires.rows)

pub closed-requires-clause-table : goal.closed-requires-clause-table
closed-requires-clause-table c =
    table_over c.args.a.now c.in_ok-operations.operations c.in_ok-list.list c.args.rows.now c.args.a.now.size c.args.gens.now.width
    (c.in_ok-operations.ensures ∙ c.requires.frame) (c.in_ok-list.ensures.width ∙ c.width.ensures.width) c.in_ok-list.ensures.items c.requires.some refl c.requires.rows
