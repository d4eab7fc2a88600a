use Rattle.std.proofs.Common.{length, ◌∙◌, arith}
use Rattle.ua_identity.specs.Patterns.{all_fillings}
use Rattle.ua_identity.proofs.ConditionLaws.{patterns_in, some_width}
use Rattle.ua_identity.proofs.conditions.Condition.width.Goals as goal

pub returns-clause-some : goal.returns-clause-some
returns-clause-some c =
    let wide = some_width c.args.a.now c.args.self.now c.size.ensures.algebra.algebra.inhabited c.identities.ensures.condition in
    let width = c.width_of.ensures.width ∙ (λ i. length (all_fillings (c.size.ensures.size i) (patterns_in (c.identities.ensures.identities i)))) in
    omega (arith, wide, width)
