use Rattle.std.proofs.Common.{◌≡◌, ◌<◌, List, length, sym, ◌∙◌, subst, arith, Some}
use Rattle.std.specs.Prelude.{slice_get, Contains}
use Rattle.std.proofs.lemmas.Option.{slice_get_within}
use Rattle.std.proofs.lemmas.List.{get_or_default}
use Rattle.ua_table.specs.Listings.{Row, vectors_of}
use Rattle.ua_table.specs.Algebras.{Vector}
use Rattle.ua_table.proofs.Lists.{all_at}
use Rattle.ua_listing.specs.Arrangements.{listed}
use Rattle.ua_listing.proofs.ArrangementLaws.{row_at-index, place_of, member-index}
use Rattle.ua_listing.proofs.listing.Listing.find.Goals as goal

pub returns-in_err-rank-clause-absent : goal.returns-in_err-rank-clause-absent
returns-in_err-rank-clause-absent c =
    rw c.from_residual.ensures
    (λ h.
    c.in_err-rank.ensures.absent
    (member-index c.self.inside.rows.items c.self.inside.index.ranks.items c.self.inside.index.positions.items c.self.inside.index.origins.items
    c.self.invariant c.args.v.now (subst (λ (rows : List Row). Contains (vectors_of rows) c.args.v.now) (sym c.self.view_is) h)))

pub returns-then-v-width-clause-absent : goal.returns-then-v-width-clause-absent
returns-then-v-width-clause-absent c = λ h.
    let there =
    member-index c.self.inside.rows.items c.self.inside.index.ranks.items c.self.inside.index.positions.items c.self.inside.index.origins.items
    c.self.invariant c.args.v.now (subst (λ (rows : List Row). Contains (vectors_of rows) c.args.v.now) (sym c.self.view_is) h) in
    let n : length c.args.v.now ≡ c.self.inside.rows.width = all_at (λ (v : Vector). length v ≡ c.self.inside.rows.width) c.self.inside.rows.items c.args.v.now c.width.ensures.rows.widths there in
    let w = c.width.ensures.width in
    let other = c.if-v-width.true in
    absurd (omega (arith, n, w, other))

pub index-requires : goal.index-requires
index-requires c =
    let low = slice_get_within c.self.inside.rows.items c.in_ok-rank.rank c.args.v.now c.in_ok-rank.ensures.found in
    omega (arith, low, c.self.invariant.positions.count, c.self.invariant.ranking.count)

pub returns-clause-found : goal.returns-clause-found
returns-clause-found c =
    let low = slice_get_within c.self.inside.rows.items c.in_ok-rank.rank c.args.v.now c.in_ok-rank.ensures.found in
    let place = place_of c.self.inside.rows.items c.self.inside.index.ranks.items c.self.inside.index.positions.items c.self.inside.index.origins.items c.self.invariant c.in_ok-rank.rank low in
    let within : c.in_ok-rank.rank < length c.self.inside.index.positions.items = omega (arith, low, c.self.invariant.positions.count, c.self.invariant.ranking.count) in
    let same = c.index.ensures ∙ get_or_default c.self.inside.index.positions.items c.in_ok-rank.rank c.index.result.now 0 within in
    subst (λ (rows : List Row). slice_get (vectors_of rows) c.index.result.now ≡ Some c.args.v.now) c.self.view_is
    (subst (λ k. slice_get (vectors_of (listed c.self.inside.rows.items c.self.inside.index.ranks.items c.self.inside.index.origins.items)) k ≡ Some c.args.v.now) (sym same)
    (row_at-index c.self.inside.rows.items c.self.inside.index.ranks.items c.self.inside.index.positions.items c.self.inside.index.origins.items c.self.invariant _ c.args.v.now place.within
    (subst (λ r. slice_get c.self.inside.rows.items r ≡ Some c.args.v.now) (sym place.rank) c.in_ok-rank.ensures.found)))
