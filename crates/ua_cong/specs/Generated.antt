-- That pairs generate a congruence.
use Rattle.std.specs.Prelude.{ℕ, List}
use Rattle.ua_table.specs.Algebras.{FiniteAlgebra}
use Rattle.ua_part.specs.Partitions.{Partition}
use Rattle.ua_prod.specs.Congruences.{IsCg}

-- there is a congruence that the pairs generate
pub record HasCg (a : FiniteAlgebra) (pairs : List (ℕ × ℕ)) : Type 0 where
  pub congruence : Partition
  pub is : IsCg a pairs congruence
