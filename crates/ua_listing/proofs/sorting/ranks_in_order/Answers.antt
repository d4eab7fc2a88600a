use Rattle.std.proofs.Common.{ap, sym, subst, ◌∙◌}
use Rattle.std.proofs.lemmas.Result.{IfOk-weaker}
use Rattle.ua_table.specs.Orders.{rows_of}
use Rattle.ua_listing.specs.Rankings.{IsRanking}
use Rattle.ua_listing.specs.inner.Rankings.{ranks_of_rows}
use Rattle.ua_listing.proofs.sorting.ranks_in_order.Goals as goal

pub returns-clause-ranking : goal.returns-clause-ranking
returns-clause-ranking c =
    IfOk-weaker c.ranks_of.result _ _
    (λ ranks is. subst (IsRanking (rows_of c.args.records.now)) (ap ranks_of_rows (sym c.as_slice.ensures.value) ∙ sym is) c.in_ok-rows.ensures.ranking)
    c.ranks_of.ensures
