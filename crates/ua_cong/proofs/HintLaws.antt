-- A known principal congruence of a pair that another pair forces lies below that of the other.
use Rattle.std.proofs.Common.{ℕ, [], ◌∷◌}
use Rattle.std.specs.Prelude.{slice_index_or}
use Rattle.ua_table.specs.Algebras.{FiniteAlgebra}
use Rattle.ua_part.specs.Partitions.{Partition, SameBlock, LiesBelow}
use Rattle.ua_prod.specs.Congruences.{IsCongruence, IsCg}
use Rattle.ua_cong.specs.declared.known.Known.{Known}
use Rattle.ua_cong.specs.inner.Closings.{IsForced}
use Rattle.ua_cong.specs.Extensions.{IsCgAbove}
use Rattle.ua_cong.specs.inner.Hints.{IsHint}
use Rattle.ua_cong.specs.inner.Known.{IsPlaceOf}

pub hint_of : (a : FiniteAlgebra) (known : Known) (x y u v place : ℕ) → IsForced a ((x, y) ∷ []) u v → IsPlaceOf a known u v place → IsHint a known x y place
hint_of a known x y u v place forced h = record {
  within = h.within;
  congruence = h.principal.congruence;
  below = λ q cq s. h.principal.least q cq (forced q cq (s, tt), tt);
}

-- where it relates the pair, it is that of the pair
pub place_of_hint : (a : FiniteAlgebra) (known : Known) (x y place : ℕ) → IsHint a known x y place → SameBlock (slice_index_or known.rows.items place []) x y → IsPlaceOf a known x y place
place_of_hint a known x y place h s = record {
  within = h.within;
  principal = record { congruence = h.congruence; relates = (s, tt); least = λ q cq rel. h.below q cq rel.0 };
}

-- the least congruence above one that lies below that of a pair, and relates the pair, is that of the pair
pub cg_from_above : (a : FiniteAlgebra) (p q : Partition) (x y : ℕ) → ((r : Partition) → IsCongruence a r → SameBlock r x y → LiesBelow p r) → IsCgAbove a p x y q → IsCg a ((x, y) ∷ []) q
cg_from_above a p q x y below h = record {
  congruence = h.congruence;
  relates = (h.relates, tt);
  least = λ r cr rel. h.least r cr (below r cr rel.0) rel.0;
}
