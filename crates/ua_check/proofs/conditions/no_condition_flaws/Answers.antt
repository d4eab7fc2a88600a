use Rattle.std.proofs.Common.{◌<◌, length, sym, ap, ◌∙◌}
use Rattle.ua_table.specs.Algebras.{FiniteAlgebra}
use Rattle.ua_table.proofs.Lists.{AllZip-length}
use Rattle.ua_identity.specs.Patterns.{condition_power, value_vector}
use Rattle.ua_check.proofs.conditions.no_condition_flaws.Goals as goal

pub outside-requires-clause-target : goal.outside-requires-clause-target
outside-requires-clause-target c =
    let v = value_vector c.args.a.now c.in_ok-condition.condition in
    ap length (c.as_slice.ensures.value ∙ c.in_ok-target.ensures)
    ∙ sym (AllZip-length (λ (b : FiniteAlgebra) x. x < b.size) (condition_power c.args.a.now c.in_ok-condition.condition) v (c.conditions.ensures.value c.args.a.now c.in_ok-condition.condition c.arity-arity.ensures.condition))
    ∙ sym c.in_ok-gens.ensures.width
