use Rattle.ua_cong.proofs.LeastLaws.{cg_exists}
use Rattle.ua_cong.proofs.laws.generated.Goals as goal

pub returns : goal.returns
returns c = λ a pairs alg elements. cg_exists a pairs alg elements
