use Rattle.ua_type.proofs.TypesExist.{types_told}
use Rattle.ua_type.proofs.laws.answers.Goals as goal

pub returns : goal.returns
returns c = λ a budget lattice alg is. types_told c.args._alloc a budget alg lattice is
