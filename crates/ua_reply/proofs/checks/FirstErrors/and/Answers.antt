use Rattle.ua_reply.proofs.CheckLaws.{and_first, parts_pass}
use Rattle.ua_reply.proofs.checks.FirstErrors.and.Goals as goal

pub returns-clause-first : goal.returns-clause-first
returns-clause-first c = λ a b p q. and_first a b c.args.self c.args.behind _ p q (cc) (cc) (cc)

pub returns-clause-each : goal.returns-clause-each
returns-clause-each c = λ a b. parts_pass a b
