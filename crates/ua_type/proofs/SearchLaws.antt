-- What trials in order tell of the first subtrace.
use Rattle.std.proofs.Common.{◌≡◌, ◌≢◌, inl, ⊎_elim, ℕ, ◌+◌, ◌<◌, Bool, sym, subst, arith}
use Rattle.std.specs.Prelude.{Ok, Option, Some, None, IfSome}
use Rattle.std.proofs.lemmas.Bool.{cases_lt}
use Rattle.ua_table.specs.Algebras.{FiniteAlgebra}
use Rattle.ua_part.specs.Partitions.{Partition, SameBlock}
use Rattle.ua_prod.specs.Congruences.{IsCongruence}
use Rattle.ua_type.specs.inner.Images.{RelatesTwo}
use Rattle.ua_type.specs.declared.known.SubtracePair.{SubtracePair}
use Rattle.ua_type.specs.Known.{IsMet}
use Rattle.ua_type.specs.inner.Known.{IsRelated}
use Rattle.ua_type.specs.Subtraces.{IsRefuted, IsBefore, IsSubtrace, IsFirstSubtrace}
use Rattle.ua_type.specs.Trials.{IsTried, HasMorePairs, AllWithin, SomeExceeds}
use Rattle.ua_type.specs.declared.trials.Trial.TheVariants as trials
use Rattle.ua_type.specs.declared.searches.Search.TheVariants.{Found, Beyond}
use Rattle.ua_type.specs.Outcomes.{IsMinimal}
use Rattle.ua_type.specs.inner.Outcomes.{IsVain, MayTryRelated, AreVainBelow, AreVainAt}
use Rattle.ua_type.specs.inner.Searches.{MaySearch}
use Rattle.ua_type.proofs.GeneratedPairs.{no_more_pairs}
use Rattle.ua_type.proofs.PairLaws.{pair_cases}
use Rattle.ua_type.proofs.Descent.{not_all_refuted}

-- each related pair before was tried in vain
vain_before : (b : FiniteAlgebra) (theta : Partition) (budget x y : ℕ) → AreVainBelow b theta budget x → AreVainAt b theta budget x y → (c d : ℕ) → IsBefore c d x y → SameBlock theta c d → c ≢ d → IsVain b budget c d
vain_before b theta budget x y below at c d before s n =
    ⊎_elim
    (λ low. below c d low s n)
    (λ same. subst (λ u. IsVain b budget u d) (sym same.0) (at d same.1 (subst (λ u. SameBlock theta u d) same.0 s) (subst (λ u. u ≢ d) same.0 n)))
    before

module _ (b : FiniteAlgebra) (theta : Partition) (budget x y : ℕ) (below : AreVainBelow b theta budget x) (at : AreVainAt b theta budget x y) (related : SameBlock theta x y) (differ : x ≢ y) where
  tried : IsTried b theta x y
  tried = record { related = related; differ = differ; before = λ c d before s n. (vain_before b theta budget x y below at c d before s n).refuted }

  pub exceeds : HasMorePairs b budget x y → SomeExceeds b theta budget
  exceeds more = record { first = x; second = y; closed = inl tried; beyond = more }

  module _ (swap : Bool) (h : IsMinimal b budget x y swap) where
    subtrace : IsSubtrace b theta x y
    subtrace = record { related = related; differ = differ; minimal = h.minimal }

    -- what refutes a pair shows that it is no subtrace
    no_subtrace : (c d : ℕ) → IsRefuted b c d → ¬ IsSubtrace b theta c d
    no_subtrace c d r s = r.lacks (s.minimal r.first r.second r.generated r.differ)

    first_found : IsFirstSubtrace b theta x y
    first_found = record { subtrace = subtrace; first = λ c d before s. no_subtrace c d (vain_before b theta budget x y below at c d before s.related s.differ).refuted s }

    tried_within : (c d : ℕ) → IsTried b theta c d → ¬ HasMorePairs b budget c d
    tried_within c d t =
        ⊎_elim
        (λ before. (vain_before b theta budget x y below at c d before t.related t.differ).within)
        (λ rest. ⊎_elim
        (λ same. subst (λ u. ¬ HasMorePairs b budget u d) (sym same.0) (subst (λ v. ¬ HasMorePairs b budget x v) (sym same.1) h.within))
        (λ behind. absurd (no_subtrace x y (t.before x y behind related differ) subtrace))
        rest)
        (pair_cases c d x y)

    all_within : AllWithin b theta budget
    all_within c d closed =
        ⊎_elim
        (λ t. tried_within c d t)
        (λ asked. λ more. tried_within asked.0 asked.1 asked.2 (no_more_pairs b budget asked.0 asked.1 c d asked.3.generated more))
        closed

    pub first_is : IsFirstSubtrace b theta x y
    first_is = first_found

    pub within_is : AllWithin b theta budget
    within_is = all_within

-- not all related pairs are tried in vain
pub not_all_vain : (b : FiniteAlgebra) (theta : Partition) (budget : ℕ) → IsCongruence b theta → RelatesTwo theta → AreVainBelow b theta budget b.size → ⊥
not_all_vain b theta budget cb two vain =
    not_all_refuted b theta two.first two.second cb two.related two.differ
    (λ c d s n. (vain c d (let l = s.left in let m = cb.size in omega (arith, l, m)) s n).refuted)

-- all pairs of x, where its block has no element beyond the size
pub vain_next : (b : FiniteAlgebra) (theta : Partition) (budget x n : ℕ) → AreVainBelow b theta budget x → AreVainAt b theta budget x n → ((d : ℕ) → SameBlock theta x d → d < n) → AreVainBelow b theta budget (x + 1)
vain_next b theta budget x n below at few c d w s apart =
    ⊎_elim
    (λ low. below c d low s apart)
    (λ high. let same : c ≡ x = omega (arith, w, high) in
    let sx : SameBlock theta x d = subst (λ u. SameBlock theta u d) same s in
    subst (λ u. IsVain b budget u d) (sym same) (at d (few d sx) sx (subst (λ u. u ≢ d) same apart)))
    (cases_lt c x)

-- a search that comes to a pair ends with what its trial tells
pub ends_beyond : (b : FiniteAlgebra) (theta : Partition) (budget x y : ℕ) → AreVainBelow b theta budget x → AreVainAt b theta budget x y → MayTryRelated b theta budget (x, y) (Ok trials.Beyond) → MaySearch b theta budget (Ok Beyond)
ends_beyond b theta budget x y below at h = (h.2.0, exceeds b theta budget x y below at h.0 h.1 h.2.1)

pub ends_found : (b : FiniteAlgebra) (theta : Partition) (budget x y : ℕ) (swap : Bool) → AreVainBelow b theta budget x → AreVainAt b theta budget x y
    → MayTryRelated b theta budget (x, y) (Ok (trials.Found swap)) → MaySearch b theta budget (Ok (Found (record { low = x; high = y; swap = swap })))
ends_found b theta budget x y swap below at h = (
  h.2.0,
  record {
    first = first_is b theta budget x y below at h.0 h.1 swap h.2.1;
    within = within_is b theta budget x y below at h.0 h.1 swap h.2.1;
    swaps = h.2.1.swaps;
  },
)

-- the subtrace that was met does not stand before a pair whose related pairs before it were tried in vain
pub met_ahead : (b : FiniteAlgebra) (theta : Partition) (budget x y : ℕ) → AreVainBelow b theta budget x → AreVainAt b theta budget x y
    → (least : Option SubtracePair) → IfSome least (IsMet b budget) → IsRelated theta least → IfSome least (λ l. ¬ IsBefore l.low l.high x y)
met_ahead b theta budget x y below at None met related = tt
met_ahead b theta budget x y below at (Some l) met related =
    λ before.
    let vain = vain_before b theta budget x y below at l.low l.high before related met.differ in
    vain.refuted.lacks (met.minimal.minimal vain.refuted.first vain.refuted.second vain.refuted.generated vain.refuted.differ)
