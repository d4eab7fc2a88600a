use Rattle.ua_identity.proofs.KindLaws.{is_jonsson, is_hagemann_mitschke, is_day}
use Rattle.ua_identity.proofs.ChainLaws.{length_zero}
use Rattle.ua_chain.proofs.laws.chains.Goals as goal

pub returns-clause-length : goal.returns-clause-length
returns-clause-length c = length_zero

pub returns-clause-jonsson : goal.returns-clause-jonsson
returns-clause-jonsson c = is_jonsson

pub returns-clause-hagemann_mitschke : goal.returns-clause-hagemann_mitschke
returns-clause-hagemann_mitschke c = is_hagemann_mitschke

pub returns-clause-day : goal.returns-clause-day
returns-clause-day c = is_day
