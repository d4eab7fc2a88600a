use Rattle.ua_answer_conditions.proofs.RepliesExist.{cond_replied, nu_replied, condition_replied, chain_replied, clone_replied, holds_replied}
use Rattle.ua_answer_conditions.proofs.laws.conditions.Goals as goal

pub returns : goal.returns
returns c = record {
  named = cond_replied c.answers.ensures;
  near_unanimity = nu_replied c.answers.ensures;
  written = condition_replied c.answers.ensures;
  chain = chain_replied c.answers-2.ensures.named;
  clone = clone_replied c.answers-3.ensures;
  identity = holds_replied c.identities.ensures;
}
