use Rattle.ua_sub.proofs.MemberLaws.{generators_in, members_below, members_closed}
use Rattle.ua_sub.proofs.MembersExist.{members_exist, ones_exist}
use Rattle.ua_sub.proofs.laws.members.Goals as goal

pub returns : goal.returns
returns c = record {
  exist = λ a gens alg low. members_exist a alg gens low;
  each_alone = ones_exist;
  generators = generators_in;
  below = λ a gens members alg elements are. members_below a gens members are alg elements;
  closed = λ a gens members f args are. members_closed a gens members are f args;
}
