-- Known principal congruences that lie below that of a pair.
use Rattle.std.specs.Prelude.{ℕ, ◌<◌, [], ◌∷◌, length, slice_index_or}
use Rattle.ua_table.specs.Algebras.{FiniteAlgebra}
use Rattle.ua_part.specs.Partitions.{SameBlock, LiesBelow, Partition}
use Rattle.ua_prod.specs.Congruences.{IsCongruence}
use Rattle.ua_cong.specs.declared.known.Known.{Known}
use Rattle.ua_cong.specs.inner.Closings.{AreForced}

-- the row at this place is a congruence below each that relates x and y
pub record IsHint (a : FiniteAlgebra) (known : Known) (x y place : ℕ) : Type 0 where
  pub within : place < length known.rows.items
  pub congruence : IsCongruence a (slice_index_or known.rows.items place [])
  pub below : (q : Partition) → IsCongruence a q → SameBlock q x y → LiesBelow (slice_index_or known.rows.items place []) q

-- two elements that each congruence relates which relates x and y
abbrev pub IsNext : FiniteAlgebra → ℕ → ℕ → ℕ × ℕ → Type 0
IsNext a x y next = AreForced a ((x, y) ∷ []) next.0 next.1
