use Rattle.ua_close.proofs.AnswerLaws.{may_close, may_count, may_reach, may_member}
use Rattle.ua_close.proofs.laws.answers.Goals as goal

pub returns : goal.returns
returns c = record {
  close = λ p gens b w product admitted. may_close p gens b w product admitted;
  count = λ p gens b w product admitted. may_count p gens b w product admitted;
  reach = λ p gens goal b w product admitted. may_reach p gens b w product admitted goal;
  member = λ p gens v b w product admitted. may_member p gens b w product admitted v;
}
