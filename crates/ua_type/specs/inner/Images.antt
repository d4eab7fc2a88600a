-- The quotient that is made of a cover.
use Rattle.std.specs.Prelude.{◌≡◌, ◌≢◌, ℕ}
use Rattle.ua_table.specs.Algebras.{FiniteAlgebra}
use Rattle.ua_part.specs.Partitions.{Partition, SameBlock}
use Rattle.ua_part.specs.Blocks.{leaders}
use Rattle.ua_prod.specs.Congruences.{IsCongruence}
use Rattle.ua_type.specs.declared.quotients.Quotient.{Quotient}
use Rattle.ua_type.specs.Quotients.{quotient_by, image_of}

-- two different elements are related
pub record RelatesTwo (theta : Partition) : Type 0 where
  pub first : ℕ
  pub second : ℕ
  pub related : SameBlock theta first second
  pub differ : first ≢ second

-- the quotient by p, with the congruence that q makes of it, which relates two different elements, and with the least members of the blocks
pub record IsQuotientOf (a : FiniteAlgebra) (p q : Partition) (made : Quotient) : Type 0 where
  pub algebra_is : made.algebra ≡ quotient_by a p
  pub theta_is : made.theta ≡ image_of p q
  pub leaders_are : made.leaders.items ≡ leaders p
  pub congruence : IsCongruence made.algebra made.theta
  pub relates_two : RelatesTwo made.theta
