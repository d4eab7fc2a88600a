use Rattle.std.proofs.Common.{map, ap, ◌∙◌}
use Rattle.ua_table.specs.Listings.{vectors_of}
use Rattle.ua_sub.specs.Homs.{two}
use Rattle.ua_sub.proofs.HomLaws.{pairs_more}
use Rattle.ua_sub.proofs.homs.pairs_of.Goals as goal

pub loop-i-preserved : goal.loop-i-preserved
loop-i-preserved c = ap (map two) c.in_ok-push.ensures.items ∙ pairs_more c.loop-i.pairs.items c.pair_at.result (vectors_of c.args.list.now) c.loop-i.i c.loop-i.invariant c.pair_at.ensures
