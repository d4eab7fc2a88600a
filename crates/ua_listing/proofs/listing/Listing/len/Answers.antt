use Rattle.std.proofs.Common.{length, ap, arith}
use Rattle.ua_listing.proofs.ArrangementLaws.{length-index}
use Rattle.ua_listing.proofs.listing.Listing.len.Goals as goal

pub returns : goal.returns
returns c = omega (arith, c.len.ensures.len, length-index c.self.inside.rows.items c.self.inside.index.ranks.items c.self.inside.index.positions.items c.self.inside.index.origins.items c.self.invariant, ap length c.self.view_is)
