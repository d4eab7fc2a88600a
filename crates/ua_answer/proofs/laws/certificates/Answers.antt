use Rattle.ua_answer.proofs.QuestionsExist.{cert_replied}
use Rattle.ua_answer.proofs.laws.certificates.Goals as goal

pub returns : goal.returns
returns c = cert_replied record {
  closure = c.flawless.ensures.closure;
  membership = c.flawless.ensures.membership;
  condition = c.flawless.ensures.condition;
  chain = c.flawless.ensures.chain;
  can_decide = c.answers.ensures;
  can_chain = c.answers-2.ensures.named;
}
