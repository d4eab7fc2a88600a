use Rattle.ua_chain.proofs.ChainsExist.{made_told, named_told}
use Rattle.ua_chain.proofs.laws.answers.Goals as goal

pub returns-clause-made : goal.returns-clause-made
returns-clause-made c = λ a places ps own even odd by_parity b w alg table. made_told c.args._alloc a places ps own even odd by_parity b w alg table

pub returns-clause-named : goal.returns-clause-named
returns-clause-named c = λ a name b w alg. named_told c.args._alloc a name b w alg
