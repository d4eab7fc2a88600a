use Rattle.ua_identity.proofs.NamedLaws.{maltsev_is, majority_is, minority_is, pixley_is, near_unanimity_is}
use Rattle.ua_identity.proofs.laws.named.Goals as goal

pub returns : goal.returns
returns c = record { maltsev = maltsev_is; majority = majority_is; minority = minority_is; pixley = pixley_is; near_unanimity = near_unanimity_is }
