use Rattle.ua_lattice.proofs.LatticesExist.{lattice_told}
use Rattle.ua_lattice.proofs.laws.answers.Goals as goal

pub returns : goal.returns
returns c = λ a budget alg few. lattice_told c.args._alloc a budget alg few
