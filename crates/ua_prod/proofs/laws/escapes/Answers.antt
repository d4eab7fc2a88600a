use Rattle.ua_prod.proofs.FirstsExist.{escape_or}
use Rattle.ua_prod.proofs.laws.escapes.Goals as goal

pub returns : goal.returns
returns c = record {
  one = λ a set alg low. escape_or a set low;
  none = λ a set args f closed e. e.outside (closed f _ e.application.operation e.application.count e.members);
}
