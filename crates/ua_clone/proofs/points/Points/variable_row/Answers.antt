use Rattle.std.proofs.Common.{◌≤◌, ◌^◌, ◌++◌, sym, ◌∙◌, subst, arith}
use Rattle.std.proofs.lemmas.Result.{IfOk-weaker}
use Rattle.ua_table.specs.declared.limits.TheConstants.{WIDTH}
use Rattle.ua_table.specs.Algebras.{column}
use Rattle.ua_term.specs.Assignments.{projection}
use Rattle.ua_clone.proofs.PointLaws.{values_long, count_total, are_entries, entries_there, total_variable, partial_variable}
use Rattle.ua_clone.proofs.points.Points.variable_row.Goals as goal

pub append_values-requires-clause-narrow : goal.append_values-requires-clause-narrow
append_values-requires-clause-narrow c =
    let n = c.args.a.now.size in
    let k = c.args.k in
    let count = count_total n k c.args.self.now c.requires.points c.in-Total.values c.in-Total.is in
    let long = values_long n k c.args.self.now c.requires.points c.in-Total.values c.in-Total.is in
    let narrow = c.requires.narrow in
    subst (λ m. m ^ k ≤ WIDTH) (sym c.size.ensures.size) (omega (arith, count, long, narrow))

pub column-requires : goal.column-requires
column-requires c =
    let e = c.from.ensures in
    let low = c.requires.variable in
    let n = c.args.a.now.size in
    entries_there n c.args.k c.from.result c.in-Partial.vectors.items (omega (arith, e, low)) (are_entries n c.args.k c.args.self.now c.requires.points c.in-Partial.vectors c.in-Partial.is)

pub returns-in_ok-append_values-in-Total : goal.returns-in_ok-append_values-in-Total
returns-in_ok-append_values-in-Total c =
    c.in_ok-append_values-in-Total.ensures
    ∙ (λ j. c.in_ok-row-in-Total.ensures.items j ++ projection (c.size.ensures.size j) c.args.k c.args.i)
    ∙ sym (total_variable c.args.a.now.size c.args.k c.args.self.now c.requires.points c.in-Total.values c.in-Total.is c.args.i)

pub returns-in-Partial : goal.returns-in-Partial
returns-in-Partial c =
    IfOk-weaker c.column.result _ _
    (λ row e.
    e ∙ (λ i. column c.in-Partial.vectors.items (c.from.ensures i))
    ∙ sym
    (partial_variable c.args.a.now.size c.args.k c.args.self.now c.requires.points c.in-Partial.vectors c.in-Partial.is c.args.i
    c.requires.variable))
    c.column.ensures
