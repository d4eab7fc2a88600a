use Rattle.ua_table.proofs.ListingLaws.{exceeding_has_more}
use Rattle.ua_sub.proofs.ExtensionLaws.{no_more, no_graph}
use Rattle.ua_sub.proofs.HomExist.{map_told}
use Rattle.ua_sub.proofs.laws.answers.Goals as goal

pub returns : goal.returns
returns c = record { told = map_told; map = no_more; exceeds = λ p gens b rows h. exceeding_has_more p gens b rows h.listing; clash = no_graph c.memberships.ensures.yes }
