use Rattle.std.proofs.Common.{◌<◌, length, refl, arith}
use Rattle.std.proofs.lemmas.Option.{slice_get_read}
use Rattle.ua_listing.proofs.RecordsLaws.{length_inside, record_inside}
use Rattle.ua_listing.proofs.records.Records.origin.Goals as goal

pub index-requires : goal.index-requires
index-requires c = let n = length_inside c.self.inside.rows.items c.self.inside.origins.items c.args.self.now c.self.invariant c.self.view_is in let m = c.self.invariant in omega (arith, n, m, c.requires)

pub returns : goal.returns
returns c =
    let n = length_inside c.self.inside.rows.items c.self.inside.origins.items c.args.self.now c.self.invariant c.self.view_is in
    let m = c.self.invariant in
    let low : c.args.i < length c.self.inside.origins.items = (let l = c.requires in omega (arith, n, m, l)) in
    record_inside c.self.inside.rows.items c.self.inside.origins.items c.args.self.now c.args.i c.index.result.now c.self.invariant c.self.view_is
    (slice_get_read c.self.inside.origins.items (length c.self.inside.origins.items) c.args.i c.index.result.now refl low c.index.ensures)
