-- Series of congruences: how they go on, and why they end.
use Rattle.std.proofs.Common.{◌≡◌, ◌≢◌, ℕ, ◌-◌, ◌<◌, ◌≤◌, suc, List, [], ◌∷◌, ◌++◌, length, refl, sym, ap, ◌∙◌, subst, arith, ⊎_elim}
use Rattle.std.specs.Prelude.{slice_index, slice_index_or}
use Rattle.std.proofs.lemmas.Bool.{cases_lt}
use Rattle.std.proofs.lemmas.List.FromFn.{length-range_with_len}
use Rattle.ua_table.specs.Algebras.{FiniteAlgebra, IsAlgebra}
use Rattle.ua_table.specs.Counting.{total}
use Rattle.ua_part.specs.Partitions.{Partition, SameBlock, full_on, identity_on}
use Rattle.ua_part.proofs.PartitionLaws.{same_itself, identity-IsPartition, identity-same}
use Rattle.ua_prod.specs.Congruences.{IsCongruence}
use Rattle.ua_prod.proofs.CongruenceLaws.{full-IsCongruence}
use Rattle.ua_cong.proofs.ClosingLaws.{entries_low, total_low, above_total}
use Rattle.ua_comm.specs.declared.members.Kind.{Kind}
use Rattle.ua_comm.specs.declared.members.Kind.TheVariants.{Derived, Lower}
use Rattle.ua_comm.specs.Series.{partner, IsSuccessor, IsSuccessorWithin, IsDescent, last_from, last_member, IsBeginning, IsBeginningWithin}
use Rattle.ua_comm.proofs.CommutatorLaws.{commutator_below_second}

-- ---- lists of numbers

-- lists with no greater entries and no lesser total are the same
same_from_total : (xs ys : List ℕ) → length xs ≡ length ys → ((k : ℕ) → k < length xs → slice_index xs k ≤ slice_index ys k) → total (λ x. x) ys ≤ total (λ x. x) xs → xs ≡ ys
same_from_total [] [] n h t = refl
same_from_total [] (y ∷ ys) n h t = absurd (omega (arith, n))
same_from_total (x ∷ xs) [] n h t = absurd (omega (arith, n))
same_from_total (x ∷ xs) (y ∷ ys) n h t =
    let low = h 0 (omega arith) in
    let lower = total_low xs ys (omega (arith, n)) (λ k w. h (suc k) (omega (arith, w))) in
    let e : x ≡ y = omega (arith, low, lower, t) in
    λ i. e i ∷ same_from_total xs ys (omega (arith, n)) (λ k w. h (suc k) (omega (arith, w))) (omega (arith, low, t)) i

-- ---- one member more

last_from_more : (d : Partition) (rest : List Partition) (e : Partition) → last_from d (rest ++ e ∷ []) ≡ e
last_from_more d [] e = refl
last_from_more d (c ∷ rest) e = last_from_more c rest e

pub last_more : (members : List Partition) (e : Partition) → last_member (members ++ e ∷ []) ≡ e
last_more [] e = refl
last_more (d ∷ rest) e = last_from_more d rest e

module _ (a : FiniteAlgebra) (Next : Partition → Partition → Type 0) where
  descent_more : (d : Partition) (rest : List Partition) (e : Partition) → IsDescent Next d rest → Next (last_from d rest) e → last_from d rest ≢ e → IsDescent Next d (rest ++ e ∷ [])
  descent_more d [] e h s n = (s, n, tt)
  descent_more d (c ∷ rest) e h s n = (h.0, h.1, descent_more c rest e h.2 s n)

  pub beginning_more : (members : List Partition) (e : Partition) → IsBeginning a Next members → Next (last_member members) e → last_member members ≢ e → IsBeginning a Next (members ++ e ∷ [])
  beginning_more [] e h s n = absurd h
  beginning_more (d ∷ rest) e h s n = (h.0, descent_more d rest e h.1 s n)

-- ---- each member is a congruence

module _ (a : FiniteAlgebra) (kind : Kind) (budget : ℕ) where
  descent_congruence : (d : Partition) (rest : List Partition) → IsCongruence a d → IsDescent (IsSuccessorWithin a kind budget) d rest → IsCongruence a (last_from d rest)
  descent_congruence d [] c h = c
  descent_congruence d (e ∷ rest) c h = descent_congruence e rest h.0.0.congruence h.2

  pub last_congruence : (members : List Partition) → IsBeginningWithin a kind budget members → IsAlgebra a → IsCongruence a (last_member members)
  last_congruence [] h alg = absurd h
  last_congruence (d ∷ rest) h alg = descent_congruence d rest (subst (IsCongruence a) (sym h.0) (full-IsCongruence a alg)) h.1

-- ---- the totals of the entries rise

module _ (a : FiniteAlgebra) (kind : Kind) where
  pub partner_congruence : (d : Partition) → IsAlgebra a → IsCongruence a d → IsCongruence a (partner a kind d)
  partner_congruence d alg c = by kind
    where
      by : (k : Kind) → IsCongruence a (partner a k d)
      by Derived = c
      by Lower = full-IsCongruence a alg

  pub successor_rises : (d e : Partition) → IsAlgebra a → IsCongruence a d → IsSuccessor a kind d e → d ≢ e → total (λ x. x) d < total (λ x. x) e
  successor_rises d e alg cd h differ =
      let below = commutator_below_second a (partner a kind d) d e (partner_congruence d alg cd) cd h in
      let ce = h.congruence in
      let n : length e ≡ length d = ce.size ∙ sym cd.size in
      ⊎_elim (λ less. less)
      (λ more. absurd (differ (same_from_total d e (sym n) (entries_low e d ce.partition cd.partition n below) more)))
      (cases_lt (total (λ x. x) d) (total (λ x. x) e))

pub member_bounded : (a : FiniteAlgebra) (d : Partition) → IsCongruence a d → total (λ x. x) d ≤ total (λ x. x) (identity_on a.size)
member_bounded a d c =
    let l = length-range_with_len 0 a.size in
    let n : length (identity_on a.size) ≡ length d = l ∙ sym c.size in
    above_total (identity_on a.size) d (identity-IsPartition a.size) c.partition n
    (λ x y s. let e = identity-same a.size x y s in let left = s.left in subst (SameBlock d x) e (same_itself d x (omega (arith, left, n))))

-- ---- where the last member stands

last_from_at : (d : Partition) (rest : List Partition) (c : Partition) → slice_index_or (d ∷ rest) (length rest) c ≡ last_from d rest
last_from_at d [] c = refl
last_from_at d (e ∷ rest) c = last_from_at e rest c

pub last_at : (members : List Partition) (c : Partition) → 0 < length members → slice_index_or members (length members - 1) c ≡ last_member members
last_at [] c w = absurd (omega (arith, w))
last_at (d ∷ rest) c w = let n : length (d ∷ rest) - 1 ≡ length rest = omega arith in ap (λ k. slice_index_or (d ∷ rest) k c) n ∙ last_from_at d rest c
