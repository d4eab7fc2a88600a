-- Principal congruences that are known.
use Rattle.std.specs.Prelude.{◌≡◌, ◌⊎◌, ℕ, ◌<◌, List, [], length, slice_index_or}
use Rattle.std.specs.List.{AllByRecursion}
use Rattle.ua_table.specs.Algebras.{FiniteAlgebra}
use Rattle.ua_part.specs.Partitions.{Partition}
use Rattle.ua_cong.specs.declared.known.Known.{Known}
use Rattle.ua_cong.specs.Closings.{IsPrincipal}
use Rattle.ua_cong.specs.Principals.{IsPrincipalCongruence}

-- the row at the pair's place is the principal congruence that the pair generates
pub record IsKnownPair (a : FiniteAlgebra) (rows : List Partition) (e : ℕ × ℕ × ℕ) : Type 0 where
  pub place : e.2 < length rows
  pub principal : IsPrincipal a (e.0, e.1, slice_index_or rows e.2 [])

-- nothing is said of a pair, or the row at its place is its principal congruence
abbrev pub IsNoneOrKnown : FiniteAlgebra → List Partition → ℕ × ℕ × ℕ → Type 0
IsNoneOrKnown a rows e = (e.0 ≡ e.1) ⊎ IsKnownPair a rows e

-- what is said of a pair holds, and each row is the principal congruence of a pair
pub record IsKnown (a : FiniteAlgebra) (known : Known) : Type 0 where
  pub width : known.rows.width ≡ a.size
  pub pairs : AllByRecursion (IsNoneOrKnown a known.rows.items) known.pairs.items
  pub rows : AllByRecursion (IsPrincipalCongruence a) known.rows.items
