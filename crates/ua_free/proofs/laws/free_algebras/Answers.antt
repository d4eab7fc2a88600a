use Rattle.std.proofs.Common.{◌^◌}
use Rattle.ua_table.proofs.AlgebraLaws.{power_product}
use Rattle.ua_term.specs.Assignments.{projections, power_of_assignments}
use Rattle.ua_close.proofs.AnswerLaws.{may_close}
use Rattle.ua_free.proofs.MemberLaws.{power_some, projections_admitted}
use Rattle.ua_free.proofs.laws.free_algebras.Goals as goal

pub returns : goal.returns
returns c = λ a k b w alg. may_close (power_of_assignments a k) (projections a.size k) b w (power_product a (a.size ^ k) alg (power_some a.size k alg.inhabited)) (projections_admitted a k)
