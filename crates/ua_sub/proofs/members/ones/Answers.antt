use Rattle.ua_sub.proofs.MemberLaws.{ones_more}
use Rattle.ua_sub.proofs.members.ones.Goals as goal

pub loop-x-preserved : goal.loop-x-preserved
loop-x-preserved g c = ones_more c.args.algebra.now c.loop-x.x c.loop-x.lists.items c.push.new.self.items c.in_ok-members.members c.loop-x.invariant c.in_ok-push.ensures.items c.in_ok-members.ensures
