-- Covers in a spanned lattice are the least of the joins with generators.
use Rattle.std.proofs.Common.{◌≡◌, ◌≢◌, ℕ, zero, suc, ◌+◌, ◌<◌, ◌≤◌, List, [], ◌∷◌, ◌++◌, length, sym, ◌∙◌, subst, arith, ⊎_elim, inl, inr, append-nil}
use Rattle.std.specs.Prelude.{◌⊎◌, slice_index, slice_index_or, Contains}
use Rattle.std.specs.List.{AllByRecursion}
use Rattle.std.proofs.lemmas.Bool.{cases_lt, cases_eq}
use Rattle.std.proofs.lemmas.List.Elements.{Contains-get_or, Contains-append_left, Contains-push}
use Rattle.std.proofs.lemmas.List.{get_or_default}
use Rattle.ua_table.specs.Algebras.{FiniteAlgebra}
use Rattle.ua_table.proofs.Lists.{all_at, all_append, all_from_contains, all_weaker, Contains-head, Contains-tail, Contains-cases, Contains-none}
use Rattle.ua_part.specs.Partitions.{Partition, IsPartition, LiesBelow, IsJoin}
use Rattle.ua_part.proofs.PartitionLaws.{below_through, below_both, below_from_leaders, leaders_from_below}
use Rattle.ua_prod.specs.Congruences.{IsCongruence}
use Rattle.ua_lattice.specs.Lattices.{IsCongruenceList, IsCover, at}
use Rattle.ua_lattice.specs.inner.Joins.{HasJoins, IsSpannedLattice}
use Rattle.ua_lattice.specs.inner.Places.{AreOrdered, IsJoinPlace, HasJoinPlace, AreJoinPlaces, AreJoinPushed, AreLeast, AreUpperCovers}
use Rattle.ua_lattice.proofs.OrderLaws.{partition_at, same_place}

-- ---- joins at places

pub joins_equal : (p q r s : Partition) → IsJoin p q r → IsJoin p q s → r ≡ s
joins_equal p q r s j k = below_both r s j.partition k.partition (j.least s k.partition k.left k.right) (k.least r j.partition j.left j.right)

pub none_pushed : (list : List Partition) (i : ℕ) (q : Partition) (places : List ℕ) → LiesBelow q (at list i) → AreJoinPushed list i q places places
none_pushed list i q places below = record {
  more = [];
  is = sym (append-nil places);
  within = tt;
  apart = λ j c. absurd (Contains-none j c);
  joins = λ j c. absurd (Contains-none j c);
  there = λ apart. absurd (apart below);
}

pub one_pushed : (list : List Partition) (i : ℕ) (q : Partition) (old new : List ℕ) (place : ℕ) → ¬ LiesBelow q (at list i) → place < length list
    → IsJoin (at list i) q (at list place) → new ≡ old ++ place ∷ [] → AreJoinPushed list i q old new
one_pushed list i q old new place apart within join is = record {
  more = place ∷ [];
  is = is;
  within = (within, tt);
  apart = λ j c. apart;
  joins = λ j c. subst (λ k. IsJoin (at list i) q (at list k)) (only j c) join;
  there = λ _. (place, subst (λ (js : List ℕ). Contains js place) (sym is) (Contains-push old place), join);
}
  where
    only : (j : ℕ) → Contains (place ∷ []) j → place ≡ j
    only j c = ⊎_elim (λ e. e) (λ k. absurd (Contains-none j k)) (Contains-cases place j [] c)

-- the places of the joins with the first k generators
pub record AreJoinPlacesOfFirst (list generators : List Partition) (i k : ℕ) (places : List ℕ) : Type 0 where
  pub joins : AllByRecursion (IsJoinPlace list generators i) places
  pub all : (m : ℕ) → m < k → HasJoinPlace list places i (slice_index_or generators m [])

pub places_more : (list generators : List Partition) (i k : ℕ) (old new : List ℕ) → k < length generators
    → AreJoinPushed list i (slice_index_or generators k []) old new → AreJoinPlacesOfFirst list generators i k old
    → AreJoinPlacesOfFirst list generators i (k + 1) new
places_more list generators i k old new w p h = record {
  joins = subst (AllByRecursion (IsJoinPlace list generators i)) (sym p.is) (all_append (IsJoinPlace list generators i) old p.more h.joins (all_from_contains (IsJoinPlace list generators i) p.more (λ j c. record {
    within = all_at (λ m. m < length list) p.more j p.within c;
    generator = slice_index_or generators k [];
    inside = Contains-get_or generators k [] w;
    apart = p.apart j c;
    join = p.joins j c;
  })));
  all = λ m low. ⊎_elim
      (λ before. λ apart. let j = h.all m before apart in (j.0, subst (λ (js : List ℕ). Contains js j.0) (sym p.is) (Contains-append_left old p.more j.0 j.1), j.2))
      (λ here. let is : k ≡ m = omega (arith, low, here) in subst (λ n. HasJoinPlace list new i (slice_index_or generators n [])) is p.there)
      (cases_lt m k);
}

pub places_all : (list generators : List Partition) (i k : ℕ) (places : List ℕ) → length generators ≤ k → AreJoinPlacesOfFirst list generators i k places → AreJoinPlaces list generators i places
places_all list generators i k places all h = record {
  joins = h.joins;
  all = all_from_contains (HasJoinPlace list places i) generators (λ q c. subst (HasJoinPlace list places i) (get_or_default generators c.0 [] q c.1 ∙ c.2) (h.all c.0 (let w = c.1 in omega (arith, w, all))));
}

-- the same places in another order
pub places_moved : (list generators : List Partition) (i : ℕ) (old new : List ℕ) → ((j : ℕ) → Contains new j → Contains old j)
    → ((j : ℕ) → Contains old j → Contains new j) → AreJoinPlaces list generators i old → AreJoinPlaces list generators i new
places_moved list generators i old new down up h = record {
  joins = all_from_contains (IsJoinPlace list generators i) new (λ j c. all_at (IsJoinPlace list generators i) old j h.joins (down j c));
  all = all_weaker (HasJoinPlace list old i) (HasJoinPlace list new i) (λ q g apart. let j = g apart in (j.0, up j.0 j.1, j.2)) generators h.all;
}

-- ---- one partition lies below another, or it does not

pub search_below : (P : ℕ → Type 0) → ((k : ℕ) → P k ⊎ (¬ P k)) → (n : ℕ) → ((k : ℕ) → k < n → P k) ⊎ ((k : ℕ) × (k < n) × (¬ P k))
search_below P test zero = inl (λ k w. absurd (omega (arith, w)))
search_below P test (suc n) =
    ⊎_elim
    (λ all. ⊎_elim
    (λ yes. inl (λ k w. ⊎_elim (λ low. all k low) (λ high. let is : n ≡ k = omega (arith, w, high) in subst P is yes) (cases_lt k n)))
    (λ no. inr (n, omega arith, no))
    (test n))
    (λ one. inr (one.0, let w = one.1 in omega (arith, w), one.2))
    (search_below P test n)

pub below_or_not : (p q : Partition) → IsPartition p → length p ≡ length q → LiesBelow p q ⊎ (¬ LiesBelow p q)
below_or_not p q hp same =
    ⊎_elim
    (λ all. inl (below_from_leaders p q same all))
    (λ one. inr (λ below. one.2 (leaders_from_below p q hp below one.0 one.1)))
    (search_below (λ k. slice_index q k ≡ slice_index q (slice_index p k)) (λ k. cases_eq (slice_index q k) (slice_index q (slice_index p k))) (length p))

-- each of these partitions that lies below r lies below s, or one does not
parting : (generators : List Partition) (r s : Partition) → length r ≡ length s → AllByRecursion (λ (q : Partition). IsPartition q × (length q ≡ length r)) generators
    → ((q : Partition) → Contains generators q → LiesBelow q r → LiesBelow q s) ⊎ ((q : Partition) × Contains generators q × LiesBelow q r × (¬ LiesBelow q s))
parting [] r s same h = inl (λ q c. absurd (Contains-none q c))
parting (g ∷ gs) r s same h =
    ⊎_elim
    (λ all. ⊎_elim
    (λ in_r. ⊎_elim
    (λ in_s. inl (λ q c below. ⊎_elim (λ e. subst (λ (p : Partition). LiesBelow p s) e in_s) (λ k. all q k below) (Contains-cases g q gs c)))
    (λ not_s. inr (g, Contains-head g gs, in_r, not_s))
    (below_or_not g s h.0.0 (h.0.1 ∙ same)))
    (λ not_r. inl (λ q c below. ⊎_elim (λ e. absurd (not_r (subst (λ (p : Partition). LiesBelow p r) (sym e) below))) (λ k. all q k below) (Contains-cases g q gs c)))
    (below_or_not g r h.0.0 h.0.1))
    (λ one. inr (one.0, Contains-tail g one.0 gs one.1, one.2, one.3))
    (parting gs r s same h.1)

-- ---- covers

module _ (a : FiniteAlgebra) (generators list : List Partition) (whole : IsCongruenceList a list) (spanned : IsSpannedLattice a generators list) where
  congruence_of : (p : Partition) → Contains list p → IsCongruence a p
  congruence_of p c = (whole.all p).0 c

  pub list_ordered : AreOrdered list
  list_ordered = record {
    size = a.size;
    partitions = all_from_contains IsPartition list (λ p c. (congruence_of p c).partition);
    sizes = all_from_contains (λ (p : Partition). length p ≡ a.size) list (λ p c. (congruence_of p c).size);
    in_order = whole.in_order;
  }

  -- the joins with a generator are in the list
  pub generators_join : AllByRecursion (λ q. HasJoins list q list) generators
  generators_join = all_weaker (IsCongruence a) (λ q. HasJoins list q list) (λ q hq p c. spanned.closed p q c ((whole.all q).1 hq)) generators spanned.generating

  pub generators_size : AllByRecursion (λ (q : Partition). length q ≡ a.size) generators
  generators_size = all_weaker (IsCongruence a) (λ (q : Partition). length q ≡ a.size) (λ q hq. hq.size) generators spanned.generating

  module _ (i : ℕ) (wi : i < length list) where
    here : Contains list (at list i)
    here = Contains-get_or list i [] wi

    -- what lies strictly above the i-th lies above a generator that does not lie below the i-th
    generator_between : (r : Partition) → Contains list r → LiesBelow (at list i) r → r ≢ at list i → (q : Partition) × Contains generators q × LiesBelow q r × (¬ LiesBelow q (at list i))
    generator_between r c up apart =
        let hr = congruence_of r c in
        let hs = congruence_of (at list i) here in
        let same : length r ≡ length (at list i) = hr.size ∙ sym hs.size in
        ⊎_elim
        (λ all. absurd (apart (below_both r (at list i) hr.partition hs.partition (all_at _ list r spanned.spanned c (at list i) hs.partition (sym same) all) up)))
        (λ one. one)
        (parting generators r (at list i) same (all_weaker (IsCongruence a) (λ (q : Partition). IsPartition q × (length q ≡ length r)) (λ q hq. (hq.partition, hq.size ∙ sym hr.size)) generators spanned.generating))

    module _ (places : List ℕ) (h : AreJoinPlaces list generators i places) where
      place : (j : ℕ) → Contains places j → IsJoinPlace list generators i j
      place j c = all_at (IsJoinPlace list generators i) places j h.joins c

      differs : (j : ℕ) → Contains places j → at list j ≢ at list i
      differs j c e = let p = place j c in p.apart (subst (LiesBelow p.generator) e p.join.right)

      -- what lies strictly above the i-th lies above one of the joins
      join_between : (r : Partition) → Contains list r → LiesBelow (at list i) r → r ≢ at list i → (j : ℕ) × Contains places j × LiesBelow (at list j) r
      join_between r c up apart =
          let g = generator_between r c up apart in
          let j = all_at (HasJoinPlace list places i) generators g.0 h.all g.1 g.3 in
          (j.0, j.1, j.2.least r (congruence_of r c).partition up g.2)

      module _ (least : List ℕ) (l : AreLeast list places least) where
        is_cover : (j : ℕ) → Contains least j → (j < length list) × IsCover a (at list i) (at list j)
        is_cover j c =
            let inside = ((l.all j).0 c).0 in
            let lowest = ((l.all j).0 c).1 in
            let p = place j inside in (
              p.within,
              record {
                lower = congruence_of (at list i) here;
                upper = congruence_of (at list j) (Contains-get_or list j [] p.within);
                below = p.join.left;
                differ = λ e. differs j inside (sym e);
                next = λ r hr up down apart.
                    let k = join_between r ((whole.all r).1 hr) up apart in
                    let is = lowest k.0 k.1 (below_through (at list k.0) r (at list j) k.2 down) in
                    below_both r (at list j) hr.partition (partition_at list list_ordered j p.within) down (subst (λ m. LiesBelow (at list m) r) is k.2);
              },
            )

        is_least : (j : ℕ) → (j < length list) × IsCover a (at list i) (at list j) → Contains least j
        is_least j both = (l.all j).1 (subst (Contains places) (only first.0 first.1 first.2) first.1, only)
          where
            only : (c : ℕ) → Contains places c → LiesBelow (at list c) (at list j) → c ≡ j
            only c inside below =
                let p = place c inside in
                same_place list list_ordered c j p.within both.0 (both.1.next (at list c) (congruence_of (at list c) (Contains-get_or list c [] p.within)) p.join.left below (differs c inside))

            first : (k : ℕ) × Contains places k × LiesBelow (at list k) (at list j)
            first = join_between (at list j) (Contains-get_or list j [] both.0) both.1.below (λ e. both.1.differ (sym e))

        pub upper_covers : AreUpperCovers a list i least
        upper_covers = record { in_order = l.in_order; all = λ j. (is_cover j, is_least j) }
