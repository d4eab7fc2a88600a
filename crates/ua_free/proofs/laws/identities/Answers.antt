use Rattle.ua_free.proofs.HoldsExist.{holds_told}
use Rattle.ua_free.proofs.laws.identities.Goals as goal

pub returns : goal.returns
returns c = λ a s t few. holds_told c.args._alloc a s t few
