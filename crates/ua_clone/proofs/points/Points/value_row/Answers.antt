use Rattle.std.proofs.Common.{sym, ◌∙◌, arith}
use Rattle.std.proofs.lemmas.Result.{IfOk-weaker}
use Rattle.ua_table.specs.Algebras.{column}
use Rattle.ua_clone.proofs.PointLaws.{are_entries, entries_there, total_wanted, partial_wanted}
use Rattle.ua_clone.proofs.points.Points.value_row.Goals as goal

pub column-requires : goal.column-requires
column-requires c =
    let e = c.from.ensures in
    entries_there c.requires.0 c.args.k c.from.result c.in-Partial.vectors.items (omega (arith, e)) (are_entries c.requires.0 c.args.k c.args.self.now c.requires.1 c.in-Partial.vectors c.in-Partial.is)

pub returns-in-Total : goal.returns-in-Total
returns-in-Total c = λ n h.
    IfOk-weaker c.from_slice.result _ _ (λ row e. e ∙ c.as_slice.ensures.value ∙ sym (total_wanted n c.args.k c.args.self.now h c.in-Total.values c.in-Total.is)) c.from_slice.ensures.items

pub returns-in-Partial : goal.returns-in-Partial
returns-in-Partial c = λ n h.
    IfOk-weaker c.column.result _ _ (λ row e. e ∙ (λ i. column c.in-Partial.vectors.items (c.from.ensures i)) ∙ sym (partial_wanted n c.args.k c.args.self.now h c.in-Partial.vectors c.in-Partial.is)) c.column.ensures
