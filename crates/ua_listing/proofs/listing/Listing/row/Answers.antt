use Rattle.std.proofs.Common.{◌≡◌, ◌<◌, List, length, ap, ◌∙◌, subst, arith, Some}
use Rattle.std.specs.Prelude.{slice_get}
use Rattle.std.proofs.lemmas.List.{get_or_default}
use Rattle.ua_table.specs.Listings.{Row, vectors_of}
use Rattle.ua_listing.proofs.ArrangementLaws.{length-listed, row_at-index, rank-below}
use Rattle.ua_listing.proofs.listing.Listing.row.Goals as goal

pub index-requires : goal.index-requires
index-requires c = omega (arith, c.requires, ap length c.self.view_is, length-listed c.self.inside.rows.items c.self.inside.index.ranks.items c.self.inside.index.origins.items c.self.invariant.origins)

pub row-requires : goal.row-requires
row-requires c =
    let low : c.args.i < length c.self.inside.index.ranks.items =
    omega (
      arith,
      c.requires,
      ap length c.self.view_is,
      length-listed c.self.inside.rows.items c.self.inside.index.ranks.items
          c.self.inside.index.origins.items c.self.invariant.origins,
    ) in
    let same = get_or_default c.self.inside.index.ranks.items c.args.i c.index.result.now 0 low in
    let r = rank-below c.self.inside.rows.items c.self.inside.index.ranks.items c.self.inside.index.positions.items c.self.inside.index.origins.items c.self.invariant c.args.i low in
    omega (arith, r, same, c.index.ensures)

pub returns : goal.returns
returns c =
    let low : c.args.i < length c.self.inside.index.ranks.items =
    omega (
      arith,
      c.requires,
      ap length c.self.view_is,
      length-listed c.self.inside.rows.items c.self.inside.index.ranks.items
          c.self.inside.index.origins.items c.self.invariant.origins,
    ) in
    let same = c.index.ensures ∙ get_or_default c.self.inside.index.ranks.items c.args.i c.index.result.now 0 low in
    subst (λ (rows : List Row). slice_get (vectors_of rows) c.args.i ≡ Some c.row.result.now) c.self.view_is
    (row_at-index c.self.inside.rows.items c.self.inside.index.ranks.items c.self.inside.index.positions.items c.self.inside.index.origins.items c.self.invariant c.args.i c.row.result.now low
    (subst (λ k. slice_get c.self.inside.rows.items k ≡ Some c.row.result.now) same c.row.ensures.row))
