use Rattle.ua_comm.proofs.AnswersExist.{commutator_told, series_told}
use Rattle.ua_comm.proofs.laws.answers.Goals as goal

pub returns-clause-commutator : goal.returns-clause-commutator
returns-clause-commutator c = λ a alpha beta b alg ca cb. commutator_told a alpha beta b alg ca cb

pub returns-clause-series : goal.returns-clause-series
returns-clause-series c = λ a kind b alg few. series_told c.args._alloc a kind b alg few
