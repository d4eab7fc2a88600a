use Rattle.std.proofs.Common.{◌≡◌, ℕ, ◌<◌, List, length, ap, ◌∙◌, subst, arith, Some, refl}
use Rattle.std.specs.Prelude.{slice_get}
use Rattle.std.proofs.lemmas.Option.{slice_get_read}
use Rattle.ua_table.specs.Listings.{Row, ranks_of}
use Rattle.ua_listing.proofs.ArrangementLaws.{length-listed, ranks_of-listed}
use Rattle.ua_listing.proofs.listing.Listing.rank.Goals as goal

pub index-requires : goal.index-requires
index-requires c = omega (arith, c.requires, ap length c.self.view_is, length-listed c.self.inside.rows.items c.self.inside.index.ranks.items c.self.inside.index.origins.items c.self.invariant.origins)

pub returns : goal.returns
returns c =
    let low : c.args.i < length c.self.inside.index.ranks.items =
    omega (
      arith,
      c.requires,
      ap length c.self.view_is,
      length-listed c.self.inside.rows.items c.self.inside.index.ranks.items
          c.self.inside.index.origins.items c.self.invariant.origins,
    ) in
    subst (λ (rows : List Row). slice_get (ranks_of rows) c.args.i ≡ Some c.index.result.now) c.self.view_is
    (ap (λ (ns : List ℕ). slice_get ns c.args.i) (ranks_of-listed c.self.inside.rows.items c.self.inside.index.ranks.items c.self.inside.index.origins.items c.self.invariant.origins)
    ∙ slice_get_read c.self.inside.index.ranks.items (length c.self.inside.index.ranks.items) c.args.i c.index.result.now refl low c.index.ensures)
