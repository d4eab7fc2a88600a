use Rattle.std.proofs.Common.{◌≡◌, ℕ, [], ◌∷◌, ◌++◌, length, take, get_or, sym, ap, ◌∙◌}
use Rattle.std.proofs.lemmas.List.{take_more, map-append}
use Rattle.std.proofs.lemmas.Option.{get_or_from_slice_get}
use Rattle.ua_table.specs.declared.origins.Origin.TheVariants.{Gen}
use Rattle.ua_table.specs.Orders.{Record}
use Rattle.ua_table.proofs.Lists.{All-slice_get}
use Rattle.ua_listing.specs.Arrangements.{by_position, IsOriginOver}
use Rattle.ua_listing.specs.inner.Arrangements.{origins_at}
use Rattle.ua_listing.proofs.listing.moved_origins.Goals as goal

pub moved-requires : goal.moved-requires
moved-requires c = All-slice_get (λ (r : Record). IsOriginOver c.args.shape.now (length c.args.positions.now) r.1) c.args.records.now _ (c.origin.ensures.0, c.origin.result) c.requires.origins c.origin.ensures.1

pub loop-rank-preserved : goal.loop-rank-preserved
loop-rank-preserved c =
    let ranks = c.args.ranks.now in
    let i = c.loop-rank.rank-index in
    let f = λ (r : ℕ). by_position c.args.shape.now c.args.positions.now (get_or c.args.records.now r ([], Gen 0)).1 in
    let here : c.origin.result ≡ (get_or c.args.records.now (get_or ranks i 0) ([], Gen 0)).1 =
    ap (λ (r : Record). r.1)
    (sym (get_or_from_slice_get c.args.records.now (get_or ranks i 0) (c.origin.ensures.0, c.origin.result) ([], Gen 0) c.origin.ensures.1)) in
    c.in_ok-push.ensures.items
    ∙ (λ l. c.loop-rank.invariant l ++ (c.moved.ensures ∙ ap (by_position c.args.shape.now c.args.positions.now) here) l ∷ [])
    ∙ sym (map-append f (take i ranks) (get_or ranks i 0 ∷ []))
    ∙ ap (origins_at c.args.shape.now c.args.positions.now c.args.records.now) (sym (take_more ranks i 0 c.loop-rank-test.true))
