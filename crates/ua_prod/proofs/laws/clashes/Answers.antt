use Rattle.ua_prod.proofs.ClashLaws.{no_clash}
use Rattle.ua_prod.proofs.FirstsExist.{clash_or}
use Rattle.ua_prod.proofs.laws.clashes.Goals as goal

pub returns : goal.returns
returns c = record {
  one = λ a p alg partition size. clash_or a p alg partition size;
  none = λ a p d is. no_clash a p is.partition is d;
}
