-- All principal congruences of an algebra: what private functions say.
use Rattle.std.specs.Prelude.{ℕ, List, [], ◌∷◌, Contains}
use Rattle.std.specs.List.{AllByRecursion}
use Rattle.ua_table.specs.Algebras.{FiniteAlgebra}
use Rattle.ua_part.specs.Partitions.{Partition}
use Rattle.ua_prod.specs.Congruences.{IsCg}
use Rattle.ua_cong.specs.Principals.{IsPrincipalCongruence, HasPrincipals}

-- the principal congruence of the pair is in the list
abbrev pub HasPrincipal : FiniteAlgebra → List Partition → ℕ × ℕ → Type 0
HasPrincipal a list pair = (k : Partition) × Contains list k × IsCg a (pair ∷ []) k

-- principal congruences, and those of all pairs
pub record AreAllPrincipals (a : FiniteAlgebra) (list : List Partition) : Type 0 where
  pub principal : AllByRecursion (IsPrincipalCongruence a) list
  pub all : HasPrincipals a list
