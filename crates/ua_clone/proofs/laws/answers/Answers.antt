use Rattle.std.proofs.Common.{length}
use Rattle.ua_table.proofs.AlgebraLaws.{power_product}
use Rattle.ua_clone.specs.Frames.{point_power, point_generators, wanted_values}
use Rattle.ua_close.proofs.AnswerLaws.{may_member}
use Rattle.ua_clone.proofs.CloneLaws.{tells}
use Rattle.ua_clone.proofs.PolynomialLaws.{generators_admitted}
use Rattle.ua_clone.proofs.laws.answers.Goals as goal

pub returns : goal.returns
returns c = λ a k kind ps b w alg some points.
    let h = may_member (point_power a ps) (point_generators a k kind ps) b w (power_product a (length ps) alg some) (generators_admitted a k kind ps points) (wanted_values ps) in
    record { answer = h.answer; permitted = (h.permitted, tells a k kind ps some points b w h.answer h.permitted); told = h.told }
