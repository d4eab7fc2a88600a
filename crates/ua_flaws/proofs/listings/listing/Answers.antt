use Rattle.ua_flaws.specs.Flaws.{listing_flaw}
use Rattle.ua_flaws.proofs.ShapeLaws.{told_none}
use Rattle.ua_flaws.proofs.SoundLaws.{listing_holds}
use Rattle.ua_flaws.proofs.listings.listing.Goals as goal

pub returns-clause-holds : goal.returns-clause-holds
returns-clause-holds c ok =
    listing_holds c.args.a.now c.args.gens.now c.args.made.now c.args.ranking.now c.args.rows.now c.args.width
    (told_none (listing_flaw c.args.a.now c.args.gens.now c.args.made.now c.args.ranking.now c.args.rows.now c.args.width) c.listing_flaws.result c.listing_flaws.ensures ok)
