-- Congruences that are found as joins.
use Rattle.std.proofs.Common.{◌≡◌, ℕ, ◌+◌, ◌<◌, ◌≤◌, List, [], ◌∷◌, ◌++◌, length, sym, ap, ◌∙◌, subst, arith, ⊎_elim, append_assoc, append-nil, length-append}
use Rattle.std.specs.Prelude.{true, Option, Some, None, IfSome, is_some, slice_get, slice_index_or, Contains}
use Rattle.std.specs.List.{AllByRecursion}
use Rattle.std.proofs.lemmas.Bool.{true≢false, cases_lt}
use Rattle.std.proofs.lemmas.List.{get_or_append_left, get_or_default}
use Rattle.std.proofs.lemmas.List.FromFn.{length-range_with_len}
use Rattle.std.proofs.lemmas.List.Elements.{Contains-append_left, Contains-append_cases, Contains-get_or, Contains-push}
use Rattle.ua_table.specs.Algebras.{FiniteAlgebra, IsAlgebra}
use Rattle.ua_table.proofs.Lists.{all_at, all_append, all_from_contains, Contains-slice_get, Contains-cases, Contains-none, Contains-head}
use Rattle.ua_part.specs.Partitions.{Partition, IsPartition, SameBlock, LiesBelow, IsJoin, identity_on}
use Rattle.ua_part.proofs.PartitionLaws.{same_itself, below_itself, below_through, below_both, identity-IsPartition, identity-same}
use Rattle.ua_prod.specs.Congruences.{IsCongruence}
use Rattle.ua_prod.proofs.CongruenceLaws.{identity-IsCongruence}
use Rattle.ua_rows.specs.RowLists.{GoesOnWith}
use Rattle.ua_cong.proofs.Normal.{join-size}
use Rattle.ua_lattice.specs.Lattices.{IsJoinClosed, IsJoinedWith}
use Rattle.ua_lattice.specs.inner.Joins.{IsJoinEntered, GoesOnWithJoins, HasJoins, IsSpanned, IsSpannedLattice, AreAmong}
use Rattle.ua_lattice.proofs.JoinedLaws.{join-IsCongruence, joined_closed}

-- what a look-up finds is there
pub contains_found : (rows : List Partition) (v : Partition) (o : Option ℕ) → is_some o ≡ true → IfSome o (λ i. slice_get rows i ≡ Some v) → Contains rows v
contains_found rows v None e h = absurd (true≢false (sym e))
contains_found rows v (Some i) e h = Contains-slice_get rows i v h

-- ---- the identity

pub identity_below : (n : ℕ) (p : Partition) → length p ≡ n → LiesBelow (identity_on n) p
identity_below n p size x y s =
    let l = s.left in
    let long = length-range_with_len 0 n in
    subst (SameBlock p x) (identity-same n x y s) (same_itself p x (omega (arith, l, long, size)))

-- the join with what lies below is the partition itself
pub join_with_lower : (p q : Partition) → IsPartition q → LiesBelow p q → IsJoin q p q
join_with_lower p q hq below = record { partition = hq; left = below_itself q; right = below; least = λ s hs one two. one }

identity_join : (n : ℕ) (p r : Partition) → IsPartition p → length p ≡ n → IsJoin (identity_on n) p r → r ≡ p
identity_join n p r hp size j = below_both r p j.partition hp (j.least p hp (identity_below n p size) (below_itself p)) j.right

-- ---- what is entered

pub join_there : (old : List Partition) (p q r : Partition) → Contains old r → IsJoin p q r → IsJoinEntered old p q old
join_there old p q r c j = record { more = []; is = sym (append-nil old); one = omega arith; joins = λ s k. absurd (Contains-none s k); there = (r, c, j) }

pub join_entered : (old : List Partition) (p q r : Partition) (new : List Partition) → IsJoin p q r → GoesOnWith old r new → IsJoinEntered old p q new
join_entered old p q r new j e = record { more = e.more; is = e.is; one = e.one; joins = λ s c. subst (IsJoin p q) (sym (e.same s c)) j; there = (r, e.there, j) }

-- ---- a list that goes on with joins

module _ (old : List Partition) (p : Partition) (now : List Partition) (g : GoesOnWithJoins old p now) where
  pub old_at : (i : ℕ) → i < length old → slice_index_or now i [] ≡ slice_index_or old i []
  old_at i w = ap (λ (ps : List Partition). slice_index_or ps i []) g.is ∙ get_or_append_left old g.more [] i w

  pub old_within : length old ≤ length now
  old_within = let n = length-append old g.more in let e = ap length g.is in omega (arith, n, e)

  pub old_among : AreAmong old now
  old_among q c = subst (λ (ps : List Partition). Contains ps q) (sym g.is) (Contains-append_left old g.more q c)

  pub goes_more : (i : ℕ) (new : List Partition) → i < length old → IsJoinEntered now (slice_index_or now i []) p new → GoesOnWithJoins old p new
  goes_more i new w e = record {
    more = g.more ++ e.more;
    is = e.is ∙ ap (λ (ps : List Partition). ps ++ e.more) g.is ∙ append_assoc old g.more e.more;
    joins = λ r c. ⊎_elim (λ k. g.joins r k) (λ k. (slice_index_or old i [], Contains-get_or old i [] w, subst (λ (q : Partition). IsJoin q p r) (old_at i w) (e.joins r k))) (Contains-append_cases g.more e.more r c);
  }

  -- each is a member from before or a join of one
  pub goes_all : (P : Partition → Type 0) → ((q : Partition) → Contains old q → P q) → ((q r : Partition) → Contains old q → IsJoin q p r → P r) → AllByRecursion P now
  goes_all P one two = subst (AllByRecursion P) (sym g.is) (all_append P old g.more (all_from_contains P old one) (all_from_contains P g.more (λ r c. let j = g.joins r c in two j.0 r j.1 j.2)))

  pub goes_partitions : AllByRecursion IsPartition old → AllByRecursion IsPartition now
  goes_partitions h = goes_all IsPartition (λ q c. all_at IsPartition old q h c) (λ q r c j. j.partition)

  goes_joined : HasJoins old p now → IsJoinedWith old p g.more
  goes_joined h = record { joins = g.joins; all = λ q c. let j = h q c in (j.0, subst (λ (ps : List Partition). Contains ps j.0) g.is j.1, j.2) }

  pub goes_closed : IsPartition p → IsJoinClosed old → HasJoins old p now → IsJoinClosed now
  goes_closed hp closed h = subst IsJoinClosed (sym g.is) (joined_closed old g.more p hp closed (goes_joined h))

pub entered_among : (old : List Partition) (p q : Partition) (new : List Partition) → IsJoinEntered old p q new → AreAmong old new
entered_among old p q new e r c = subst (λ (ps : List Partition). Contains ps r) (sym e.is) (Contains-append_left old e.more r c)

-- the join of each of the first i is there
abbrev pub HasFirstJoins : List Partition → Partition → ℕ → List Partition → Type 0
HasFirstJoins old p i new = (k : ℕ) → k < i → (r : Partition) × Contains new r × IsJoin (slice_index_or old k []) p r

pub first_joins_all : (old : List Partition) (p : Partition) (i : ℕ) (new : List Partition) → length old ≤ i → HasFirstJoins old p i new → HasJoins old p new
first_joins_all old p i new all h q c =
    let j = h c.0 (let w = c.1 in omega (arith, w, all)) in
    (j.0, j.1, subst (λ (s : Partition). IsJoin s p j.0) (get_or_default old c.0 [] q c.1 ∙ c.2) j.2)

pub first_joins_more : (old : List Partition) (p : Partition) (i : ℕ) (now new : List Partition) → i < length old → GoesOnWithJoins old p now
    → IsJoinEntered now (slice_index_or now i []) p new → HasFirstJoins old p i now → HasFirstJoins old p (i + 1) new
first_joins_more old p i now new w g e h k low =
    ⊎_elim
    (λ less. let j = h k less in (j.0, entered_among now (slice_index_or now i []) p new e j.0 j.1, j.2))
    (λ more.
    let is : i ≡ k = omega (arith, more, low) in
    (e.there.0, e.there.1, subst (λ (q : Partition). IsJoin q p e.there.0) (old_at old p now g i w ∙ ap (λ n. slice_index_or old n []) is) e.there.2))
    (cases_lt k i)

-- ---- lattices that are spanned

spanned_more : (gens : List Partition) (p q : Partition) → IsSpanned gens q → IsSpanned (gens ++ p ∷ []) q
spanned_more gens p q h s hs size each = h s hs size (λ r c below. each r (Contains-append_left gens (p ∷ []) r c) below)

spanned_join : (gens : List Partition) (p q r : Partition) → length q ≡ length p → IsSpanned gens q → IsJoin q p r → IsSpanned (gens ++ p ∷ []) r
spanned_join gens p q r same h j s hs size each =
    j.least s hs
    (h s hs (size ∙ join-size q p r same j) (λ u c below. each u (Contains-append_left gens (p ∷ []) u c) (below_through u q r below j.left)))
    (each p (Contains-push gens p) j.right)

module _ (a : FiniteAlgebra) (gens old : List Partition) (p : Partition) (new : List Partition) (alg : IsAlgebra a) (h : IsSpannedLattice a gens old) (hp : IsCongruence a p) (g : GoesOnWithJoins old p new) where
  congruence_of : (q : Partition) → Contains old q → IsCongruence a q
  congruence_of q c = all_at (IsCongruence a) old q h.congruences c

  pub goes_congruences : AllByRecursion (IsCongruence a) new
  goes_congruences = goes_all old p new g (IsCongruence a) congruence_of (λ q r c j. join-IsCongruence a q p r alg (congruence_of q c) hp j)

  module _ (all : HasJoins old p new) where
    -- the partition is there, as its join with the identity
    pub generator_there : Contains new p
    generator_there =
        let j = all (identity_on a.size) h.identity in
        subst (Contains new) (identity_join a.size p j.0 hp.partition hp.size j.2) j.1

    pub lattice_more : IsSpannedLattice a (gens ++ p ∷ []) new
    lattice_more = record {
      identity = old_among old p new g (identity_on a.size) h.identity;
      congruences = goes_congruences;
      closed = goes_closed old p new g hp.partition h.closed all;
      generating = all_append (IsCongruence a) gens (p ∷ []) h.generating (hp, tt);
      spanned = goes_all old p new g (IsSpanned (gens ++ p ∷ []))
          (λ q c. spanned_more gens p q (all_at (IsSpanned gens) old q h.spanned c))
          (λ q r c j. let hq = congruence_of q c in spanned_join gens p q r (hq.size ∙ sym hp.size) (all_at (IsSpanned gens) old q h.spanned c) j);
    }

-- the identity alone
pub identity_lattice : (a : FiniteAlgebra) (rows : List Partition) → IsAlgebra a → rows ≡ identity_on a.size ∷ [] → IsSpannedLattice a [] rows
identity_lattice a rows alg is = subst (IsSpannedLattice a []) (sym is) (record {
  identity = Contains-head (identity_on a.size) [];
  congruences = (identity-IsCongruence a alg, tt);
  closed = λ p q cp cq. (identity_on a.size, Contains-head (identity_on a.size) [], closed p q (only p cp) (only q cq));
  generating = tt;
  spanned = (λ s hs size each. identity_below a.size s (size ∙ length-range_with_len 0 a.size), tt);
})
  where
    only : (p : Partition) → Contains (identity_on a.size ∷ []) p → identity_on a.size ≡ p
    only p c = ⊎_elim (λ e. e) (λ k. absurd (Contains-none p k)) (Contains-cases (identity_on a.size) p [] c)

    closed : (p q : Partition) → identity_on a.size ≡ p → identity_on a.size ≡ q → IsJoin p q (identity_on a.size)
    closed p q e f =
        subst (λ (s : Partition). IsJoin s q (identity_on a.size)) e
        (subst (λ (s : Partition). IsJoin (identity_on a.size) s (identity_on a.size)) f
        (join_with_lower (identity_on a.size) (identity_on a.size) (identity-IsPartition a.size) (below_itself (identity_on a.size))))
