-- The partitions of principal congruences.
use Rattle.std.proofs.Common.{◌≤◌, List, arith}
use Rattle.std.specs.List.{AllByRecursion}
use Rattle.ua_table.specs.Algebras.{FiniteAlgebra}
use Rattle.ua_table.specs.declared.limits.TheConstants.{SIZE}
use Rattle.ua_table.proofs.Lists.{all_weaker}
use Rattle.ua_part.specs.Partitions.{Partition, IsPart}
use Rattle.ua_prod.specs.Congruences.{IsCongruence}
use Rattle.ua_cong.specs.Principals.{IsPrincipalCongruence}

pub congruence_part : (a : FiniteAlgebra) (p : Partition) → a.size ≤ SIZE → IsCongruence a p → IsPart p
congruence_part a p small h = record { partition = h.partition; few = (let n = h.size in omega (arith, n, small)) }

pub principal_congruences : (a : FiniteAlgebra) (ps : List Partition) → AllByRecursion (IsPrincipalCongruence a) ps → AllByRecursion (IsCongruence a) ps
principal_congruences a ps h = all_weaker (IsPrincipalCongruence a) (IsCongruence a) (λ p k. k.principal.congruence) ps h
