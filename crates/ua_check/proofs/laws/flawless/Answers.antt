use Rattle.ua_check.proofs.FlawlessTerms.{flawless_condition, flawless_no_condition, flawless_chain}
use Rattle.ua_check.proofs.FlawlessNoChain.{flawless_no_chain}
use Rattle.ua_check.proofs.laws.flawless.Goals as goal

pub returns-clause-condition : goal.returns-clause-condition
returns-clause-condition c = λ a name k steps table places few some are meets. flawless_condition c.written.ensures.flawless c.written.ensures.read a table name k steps places few some are meets

pub returns-clause-no_condition : goal.returns-clause-no_condition
returns-clause-no_condition c = flawless_no_condition c.generated.ensures.vectors c.generated.ensures.lacking

pub returns-clause-chain : goal.returns-clause-chain
returns-clause-chain c = λ a name terms table narrow some are chain. flawless_chain c.written.ensures.flawless c.written.ensures.read a table name terms narrow some are chain

pub returns-clause-no_chain : goal.returns-clause-no_chain
returns-clause-no_chain c = λ a name rows even odd size narrow inc vectors exact evens odds none. flawless_no_chain a name rows even odd c.generated.ensures.vectors c.generated.ensures.exact size narrow inc vectors exact evens odds none
