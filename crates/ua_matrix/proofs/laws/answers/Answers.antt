use Rattle.ua_matrix.proofs.CentralExist.{central_told}
use Rattle.ua_matrix.proofs.laws.answers.Goals as goal

pub returns : goal.returns
returns c = λ a alpha beta delta b w alg ca cb cd. central_told a alpha beta delta b w alg ca cb cd
