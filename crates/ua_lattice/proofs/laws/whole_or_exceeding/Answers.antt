use Rattle.std.proofs.Common.{arith}
use Rattle.ua_table.proofs.Lists.{all_at}
use Rattle.ua_prod.specs.Congruences.{IsCongruence}
use Rattle.ua_lattice.proofs.OrderLaws.{length_from_members}
use Rattle.ua_lattice.proofs.laws.whole_or_exceeding.Goals as goal

pub returns : goal.returns
returns c = λ a budget list more whole few exceeding.
    let long = length_from_members more list exceeding.congruences.in_order (λ p k. (whole.all p).1 (all_at (IsCongruence a) more p exceeding.congruences.congruences k)) in
    let beyond = exceeding.beyond in
    omega (arith, long, few, beyond)
