use Rattle.ua_comm.specs.Series.{IsSuccessorWithin, IsBeginning, last_member}
use Rattle.ua_comm.proofs.MemberLaws.{left_to_rise}
use Rattle.ua_comm.proofs.members.members_of.Given as goal

abbrev pub invariant-members : goal.invariant-members
invariant-members g l = IsBeginning l.a (IsSuccessorWithin l.a l.kind l.run.budget) l.members.items

abbrev pub decreases-members : goal.decreases-members
decreases-members g l = left_to_rise l.a (last_member l.members.items)
