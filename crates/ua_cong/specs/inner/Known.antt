-- Principal congruences that are known: what private functions say.
use Rattle.std.specs.Prelude.{ℕ, ◌<◌, List, [], length, slice_index_or, Contains}
use Rattle.ua_table.specs.Algebras.{FiniteAlgebra}
use Rattle.ua_part.specs.Partitions.{Partition}
use Rattle.ua_cong.specs.declared.known.Known.{Known}
use Rattle.ua_cong.specs.Closings.{IsPrincipal}

-- the row at this place is the principal congruence of two elements
pub record IsPlaceOf (a : FiniteAlgebra) (known : Known) (x y place : ℕ) : Type 0 where
  pub within : place < length known.rows.items
  pub principal : IsPrincipal a (x, y, slice_index_or known.rows.items place [])

-- what is in the one list is in the other
abbrev pub AreKept : List Partition → List Partition → Type 0
AreKept old new = (p : Partition) → Contains old p → Contains new p
