use Rattle.std.proofs.Common.{◌≡◌, ◌<◌, List, length, ap, ◌∙◌, subst, arith, Some, refl}
use Rattle.std.specs.Prelude.{slice_get}
use Rattle.std.proofs.lemmas.Option.{slice_get_read}
use Rattle.ua_table.specs.declared.origins.Origin.{Origin}
use Rattle.ua_table.specs.Listings.{Row}
use Rattle.ua_listing.specs.Arrangements.{origins_of}
use Rattle.ua_listing.proofs.ArrangementLaws.{length-listed, origins_of-listed}
use Rattle.ua_listing.proofs.listing.Listing.origin.Goals as goal

pub index-requires : goal.index-requires
index-requires c =
    let same = c.self.invariant.origins in
    omega (
      arith,
      same,
      c.requires,
      ap length c.self.view_is,
      length-listed c.self.inside.rows.items c.self.inside.index.ranks.items
          c.self.inside.index.origins.items c.self.invariant.origins,
    )

pub returns : goal.returns
returns c =
    let low : c.args.i < length c.self.inside.index.origins.items =
    (let same = c.self.invariant.origins in
    omega (
      arith,
      same,
      c.requires,
      ap length c.self.view_is,
      length-listed c.self.inside.rows.items c.self.inside.index.ranks.items
          c.self.inside.index.origins.items c.self.invariant.origins,
    )) in
    subst (λ (rows : List Row). slice_get (origins_of rows) c.args.i ≡ Some c.index.result.now) c.self.view_is
    (ap (λ (os : List Origin). slice_get os c.args.i) (origins_of-listed c.self.inside.rows.items c.self.inside.index.ranks.items c.self.inside.index.origins.items c.self.invariant.origins)
    ∙ slice_get_read c.self.inside.index.origins.items (length c.self.inside.index.origins.items) c.args.i c.index.result.now refl low c.index.ensures)
