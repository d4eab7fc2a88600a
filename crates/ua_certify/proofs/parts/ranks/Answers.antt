use Rattle.std.proofs.Common.{◌∷◌, ◌++◌, [], ap, ◌∙◌}
use Rattle.ua_table.specs.Listings.{ranks_of}
use Rattle.ua_certify.proofs.Loops.{taken_more}
use Rattle.ua_certify.proofs.parts.ranks.Goals as goal

pub loop-i-preserved : goal.loop-i-preserved
loop-i-preserved c = c.in_ok-push.ensures.items ∙ ap (λ xs. xs ++ c.rank.result ∷ []) c.loop-i.invariant ∙ taken_more (ranks_of c.args.listing.now) c.loop-i.i c.rank.result c.rank.ensures
