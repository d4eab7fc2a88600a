use Rattle.std.proofs.Common.{arith}
use Rattle.ua_listing.proofs.RecordsLaws.{over_records}
use Rattle.ua_listing.proofs.listing.listing_of.Goals as goal

pub index_of-requires : goal.index_of-requires
index_of-requires c =
    let n = c.requires.count in
    over_records c.args.shape.now c.args.rows.items c.args.origins.items c.new-records.result (omega (arith, n)) c.new-records.ensures c.requires.origins
