use Rattle.ua_log.proofs.Words.{stands_later}
use Rattle.ua_log.proofs.ClosedLogs.{origin_code}
use Rattle.ua_log.proofs.laws.codes.Goals as goal

pub returns : goal.returns
returns c = λ p plan k o low stands. origin_code p o plan (stands_later p k p.budget o low stands)
