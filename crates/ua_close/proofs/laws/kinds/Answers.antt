use Rattle.ua_close.proofs.KindLaws.{members_vectors, one_kind, few_members, closed_exists, closed_meets}
use Rattle.ua_close.proofs.LeastExists.{least_exists}
use Rattle.ua_close.proofs.laws.kinds.Goals as goal

pub returns : goal.returns
returns c = record {
  vectors = λ p gens v product admitted. members_vectors p gens product admitted v;
  one = λ p gens b product admitted. one_kind p gens product admitted b;
  few = λ p gens b product admitted. few_members p gens product admitted b;
  closed = λ p gens b product admitted. closed_exists p gens product admitted b;
  least = least_exists;
  goals = closed_meets;
}
