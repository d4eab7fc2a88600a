use Rattle.ua_type.proofs.PairLaws.{cover_congruence, cover_subtrace}
use Rattle.ua_type.proofs.laws.subtraces.Goals as goal

pub returns-clause-exists : goal.returns-clause-exists
returns-clause-exists c = cover_subtrace

pub returns-clause-image : goal.returns-clause-image
returns-clause-image c = cover_congruence
