use Rattle.std.proofs.Common.{◌≡◌, ℕ, ◌<◌, List, length, sym, ap, ◌∙◌, subst, arith, Some}
use Rattle.std.specs.Prelude.{slice_get, slice_index}
use Rattle.std.proofs.lemmas.Option.{slice_get-get_or}
use Rattle.std.proofs.lemmas.List.{get_or_default}
use Rattle.ua_table.specs.Listings.{Row, ranks_of}
use Rattle.ua_listing.specs.Arrangements.{listed}
use Rattle.ua_listing.proofs.ArrangementLaws.{length-index, place_of, ranks_of-listed}
use Rattle.ua_listing.proofs.listing.Listing.position.Goals as goal

pub index-requires : goal.index-requires
index-requires c =
    let n = length-index c.self.inside.rows.items c.self.inside.index.ranks.items c.self.inside.index.positions.items c.self.inside.index.origins.items c.self.invariant in
    omega (arith, c.requires, n, ap length c.self.view_is, c.self.invariant.positions.count, c.self.invariant.ranking.count)

pub returns : goal.returns
returns c =
    let n = length-index c.self.inside.rows.items c.self.inside.index.ranks.items c.self.inside.index.positions.items c.self.inside.index.origins.items c.self.invariant in
    let low : c.args.rank < length c.self.inside.rows.items = (let l = c.requires in let e = ap length c.self.view_is in omega (arith, l, n, e)) in
    let place = place_of c.self.inside.rows.items c.self.inside.index.ranks.items c.self.inside.index.positions.items c.self.inside.index.origins.items c.self.invariant c.args.rank low in
    let within : c.args.rank < length c.self.inside.index.positions.items = (let p = c.self.invariant.positions.count in let r = c.self.invariant.ranking.count in omega (arith, low, p, r)) in
    let same = c.index.ensures ∙ get_or_default c.self.inside.index.positions.items c.args.rank c.index.result.now 0 within in
    subst (λ (rows : List Row). slice_get (ranks_of rows) c.index.result.now ≡ Some c.args.rank) c.self.view_is
    (subst (λ k. slice_get (ranks_of (listed c.self.inside.rows.items c.self.inside.index.ranks.items c.self.inside.index.origins.items)) k ≡ Some c.args.rank) (sym same)
    (ap (λ (ns : List ℕ). slice_get ns (slice_index c.self.inside.index.positions.items c.args.rank)) (ranks_of-listed c.self.inside.rows.items c.self.inside.index.ranks.items c.self.inside.index.origins.items c.self.invariant.origins)
    ∙ slice_get-get_or c.self.inside.index.ranks.items (slice_index c.self.inside.index.positions.items c.args.rank) 0 place.within ∙ ap Some place.rank))
