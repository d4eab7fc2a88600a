use Rattle.ua_lattice.proofs.JoinedLaws.{join-IsCongruence, all_joins}
use Rattle.ua_lattice.proofs.laws.joins.Goals as goal

pub returns-clause-congruence : goal.returns-clause-congruence
returns-clause-congruence c = join-IsCongruence

pub returns-clause-complete : goal.returns-clause-complete
returns-clause-complete c = all_joins
