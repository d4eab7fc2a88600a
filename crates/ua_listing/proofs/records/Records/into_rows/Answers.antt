use Rattle.ua_listing.proofs.RecordsLaws.{rows_inside}
use Rattle.ua_listing.proofs.records.Records.into_rows.Goals as goal

pub returns : goal.returns
returns c = rows_inside c.self.inside.rows.items c.self.inside.origins.items c.args.self c.self.invariant c.self.view_is
