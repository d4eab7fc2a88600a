use Rattle.ua_comm.proofs.SeriesLaws.{last_congruence, successor_rises, member_bounded}
use Rattle.ua_comm.proofs.laws.descents.Goals as goal

pub returns-clause-congruence : goal.returns-clause-congruence
returns-clause-congruence c = last_congruence

pub returns-clause-rises : goal.returns-clause-rises
returns-clause-rises c = successor_rises

pub returns-clause-bounded : goal.returns-clause-bounded
returns-clause-bounded c = λ a d cong. member_bounded a d cong
