use Rattle.ua_comm.proofs.CommutatorLaws.{commutator_grown, one_commutator, commutator_below_first, commutator_below_second}
use Rattle.ua_comm.proofs.CommutatorsExist.{commutator_exists}
use Rattle.ua_comm.proofs.laws.commutators.Goals as goal

pub returns-clause-grown : goal.returns-clause-grown
returns-clause-grown c = commutator_grown

pub returns-clause-exists : goal.returns-clause-exists
returns-clause-exists c = commutator_exists

pub returns-clause-one : goal.returns-clause-one
returns-clause-one c = one_commutator

pub returns-clause-first : goal.returns-clause-first
returns-clause-first c = commutator_below_first

pub returns-clause-second : goal.returns-clause-second
returns-clause-second c = commutator_below_second
