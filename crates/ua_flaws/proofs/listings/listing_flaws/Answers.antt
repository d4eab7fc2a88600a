use Rattle.std.proofs.Common.{◌≡◌, false, refl, sym, ap, ◌∙◌, length, arith}
use Rattle.ua_table.specs.declared.limits.TheConstants.{WIDTH}
use Rattle.ua_table.specs.Refusals.{is_outside}
use Rattle.ua_flaws.specs.declared.flaws.Flaw.TheVariants as flaw
use Rattle.ua_flaws.proofs.FirstLaws.{refusal_none}
use Rattle.ua_flaws.proofs.RankLaws.{ranks_once}
use Rattle.ua_flaws.proofs.ShapeLaws.{all_elements, table_over, wide}
use Rattle.ua_flaws.proofs.listings.listing_flaws.Goals as goal

pub list_of-requires-clause-vectors : goal.list_of-requires-clause-vectors
list_of-requires-clause-vectors c =
    all_elements c.size-size.result c.args.width c.args.gens.now (let s = c.size-size.ensures.size in let l = c.size-size.ensures.algebra.small in omega arith) (c.in_ok-vectors.ensures.vectors refl)

pub origins-requires-clause-table : goal.origins-requires-clause-table
origins-requires-clause-table c =
    let inside : is_outside c.args.width WIDTH ≡ false = refusal_none (is_outside c.args.width WIDTH) flaw.Width (sym c.in_ok-frame.ensures.flaw) in
    table_over c.args.a.now c.in_ok-operations.operations c.in_ok-list.list c.args.rows.now c.size-size.result c.args.width
    (c.in_ok-operations.ensures ∙ c.in_ok-frame.ensures.frame) c.in_ok-list.ensures.width c.in_ok-list.ensures.items (wide c.args.width inside) c.size-size.ensures.size (c.in_ok-vectors-2.ensures.vectors refl)

pub origins-requires-clause-ranks : goal.origins-requires-clause-ranks
origins-requires-clause-ranks c =
    sym (ranks_once c.args.rows.now c.args.ranking.now c.in_ok-ranks.ensures).count ∙ ap length (sym c.in_ok-list.ensures.items)

pub closed-requires-clause-table : goal.closed-requires-clause-table
closed-requires-clause-table c =
    let inside : is_outside c.args.width WIDTH ≡ false = refusal_none (is_outside c.args.width WIDTH) flaw.Width (sym c.in_ok-frame.ensures.flaw) in
    table_over c.args.a.now c.in_ok-operations.operations c.in_ok-list.list c.args.rows.now c.size-size.result c.args.width
    (c.in_ok-operations.ensures ∙ c.in_ok-frame.ensures.frame) c.in_ok-list.ensures.width c.in_ok-list.ensures.items (wide c.args.width inside) c.size-size.ensures.size (c.in_ok-vectors-2.ensures.vectors refl)
