-- Congruences that grow, matrix by matrix.
use Rattle.std.proofs.Common.{ℕ, ◌<◌, List, [], length, subst, arith}
use Rattle.std.specs.Prelude.{slice_index, slice_index_or}
use Rattle.std.proofs.lemmas.List.Elements.{All-from_recursion}
use Rattle.std.proofs.lemmas.List.FromFn.{length-range_with_len}
use Rattle.ua_table.specs.Algebras.{Vector, FiniteAlgebra, IsAlgebra}
use Rattle.ua_part.specs.Partitions.{Partition, SameBlock, LiesBelow, identity_on}
use Rattle.ua_part.proofs.PartitionLaws.{same_itself, below_itself, below_through, identity-same}
use Rattle.ua_prod.specs.Congruences.{IsCongruence}
use Rattle.ua_prod.proofs.CongruenceLaws.{identity-IsCongruence}
use Rattle.ua_cong.specs.Extensions.{IsCgAbove}
use Rattle.ua_cong.proofs.ExtensionLaws.{above_lower, above_no_more}
use Rattle.ua_matrix.specs.Matrices.{AreFour, Goes, Fails}
use Rattle.ua_comm.specs.inner.Growths.{IsGrowing, IsLower, IsTakenIn}

-- ---- the identity

pub growing_none : (a : FiniteAlgebra) (matrices : List Vector) → IsAlgebra a → IsGrowing a matrices (identity_on a.size)
growing_none a matrices alg = record {
  congruence = identity-IsCongruence a alg;
  within = λ other co all x y s.
      let e = identity-same a.size x y s in
      let l = s.left in
      let n = co.size in
      subst (SameBlock other x) e (same_itself other x (omega (arith, l, n, length-range_with_len 0 a.size)));
}

-- ---- one matrix

pub taken_failing : (a : FiniteAlgebra) (delta new : Partition) (m : Vector) → IsCongruence a delta → AreFour a.size m → Fails delta m → IsCgAbove a delta (slice_index m 2) (slice_index m 3) new → IsTakenIn a delta m new
taken_failing a delta new m c four f h = record {
  congruence = h.congruence;
  above = h.above;
  within = λ other co below go. h.least other co below (go (below (slice_index m 0) (slice_index m 1) f.first));
  lower = λ _. above_lower a delta new (slice_index m 2) (slice_index m 3) c (at 2 (omega arith)) (at 3 (omega arith)) f.second h;
}
  where
    at : (k : ℕ) → k < 4 → slice_index m k < a.size
    at k w = All-from_recursion (λ x. x < a.size) m four.below k 0 (let n = four.width in omega (arith, w, n))

-- ---- one matrix more of a sweep

module _ (a : FiniteAlgebra) (matrices : List Vector) (start old new : Partition) (i : ℕ) (w : i < length matrices)
    (growing : IsGrowing a matrices old) (above : LiesBelow start old) (h : IsTakenIn a old (slice_index_or matrices i []) new) where
  pub swept_growing : IsGrowing a matrices new
  swept_growing = record {
    congruence = h.congruence;
    within = λ other co all. h.within other co (growing.within other co all) (All-from_recursion (Goes other) matrices all i [] w);
  }

  pub swept_above : LiesBelow start new
  swept_above = below_through start old new above h.above

  -- what was lower stays so
  pub swept_lower : IsLower old start → IsLower new start
  swept_lower low = let more = above_no_more a old new growing.congruence h.congruence h.above in omega (arith, low, more)
