-- That all congruences are told, or one more than the budget: those among all partitions, in order, with their covers and the irreducible ones.
use Rattle.std.proofs.Common.{◌≡◌, ◌⊎◌, ◌↔◌, inl, inr, ⊎_elim, ℕ, zero, suc, ◌+◌, ◌*◌, ◌^◌, ◌<◌, ◌≤◌, List, [], ◌∷◌, ◌++◌, length, map, take, replicate, Vec, Ordering, refl, sym, ap, ◌∙◌, subst, arith, length-append}
use Rattle.std.specs.Prelude.{Contains, slice_index}
use Rattle.std.specs.List.{AllByRecursion, range_with_len}
use Rattle.std.specs.List.Sorted.{IsStrictlySortedBy, IsStrictlyIncreasing}
use Rattle.std.specs.Ordering.{ordering_reverse}
use Rattle.std.specs.declared.alloc.Global.{Global}
use Rattle.std.specs.declared.cmp.Ordering.TheVariants.{Less, Equal, Greater}
use Rattle.std.proofs.Math.Nat.{mul-le-mul}
use Rattle.std.proofs.lemmas.Bool.{cases_eq, cases_lt}
use Rattle.std.proofs.lemmas.List.{length-map, length-take-le}
use Rattle.std.proofs.lemmas.List.Elements.{Contains-get_or, Contains-append_left, Contains-push, Contains-push_cases, recursion_from_All, All-from_get_or}
use denote.RawPtr.{null_ptr}
use Rattle.ua_table.specs.declared.limits.TheConstants.{BUDGET}
use Rattle.ua_table.specs.Algebras.{FiniteAlgebra, IsAlgebra}
use Rattle.ua_table.specs.Numbering.{choices}
use Rattle.ua_table.proofs.Choices.{IsChoice, chosen, in_range, range_low}
use Rattle.ua_table.proofs.Firsts.{IsFirstOf, first_of}
use Rattle.ua_table.proofs.Lists.{Contains-head, Contains-tail, Contains-cases, Contains-none, Contains-map, all_at, all_from_contains, all_weaker, all_take, all_map}
use Rattle.ua_part.specs.Partitions.{Partition, IsPartition, SameBlock, LiesBelow}
use Rattle.ua_part.proofs.PartitionLaws.{below_both, below_itself, below_from_leaders}
use Rattle.ua_prod.specs.Congruences.{IsCongruence, RelatesAll}
use Rattle.ua_prod.proofs.EscapeLaws.{set_few}
use Rattle.ua_cong.specs.Closings.{AreElements}
use Rattle.ua_cong.proofs.LeastLaws.{cg_exists}
use Rattle.ua_lattice.specs.declared.lattice.Lattice.TheVariants.{Whole, Exceeds}
use Rattle.ua_lattice.specs.Answers.{HasLattice}
use Rattle.ua_lattice.specs.Lattices.{by_blocks, IsCongruenceList, IsCover, lower_covers, at}
use Rattle.ua_lattice.specs.inner.Places.{AreUpperCovers, AreCoversOfFirst, pairs_from}
use Rattle.ua_lattice.proofs.CountLaws.{irreducible_all}
use Rattle.ua_lattice.proofs.CoverLaws.{search_below, below_or_not}
use Rattle.ua_lattice.proofs.LeastLaws.{increasing_push}
use Rattle.ua_lattice.proofs.OrderLaws.{by_blocks_total, same_from_tie}
use Rattle.ua_lattice.proofs.PairLaws.{covers_none, covers_more, covers_all}
use Rattle.ua_lattice.proofs.WholeLaws.{covers_within}

-- ---- partitions in order, each once

-- the members of a list in order and one more
record HasOneMore (p : Partition) (list : List Partition) : Type 0 where
  new : List Partition
  in_order : IsStrictlySortedBy by_blocks new
  all : (q : Partition) → Contains new q ↔ ((p ≡ q) ⊎ Contains list q)

before_all : (p x : Partition) (xs : List Partition) → IsStrictlySortedBy by_blocks (x ∷ xs) → by_blocks p x ≡ Less → IsStrictlySortedBy by_blocks (p ∷ x ∷ xs)
unfolding IsStrictlySortedBy
before_all p x xs sorted less = ((less, all_weaker (λ y. by_blocks x y ≡ Less) (λ y. by_blocks p y ≡ Less) (λ y l. by_blocks_total.trans p x y less l) xs sorted.0), sorted)

behind_head : (p x : Partition) (xs : List Partition) (rest : HasOneMore p xs) → IsStrictlySortedBy by_blocks (x ∷ xs) → by_blocks x p ≡ Less → IsStrictlySortedBy by_blocks (x ∷ rest.new)
unfolding IsStrictlySortedBy
behind_head p x xs rest sorted less = (
  all_from_contains (λ y. by_blocks x y ≡ Less) rest.new (λ y c. ⊎_elim (λ e. subst (λ z. by_blocks x z ≡ Less) e less) (λ r. all_at (λ z. by_blocks x z ≡ Less) xs y sorted.0 r) ((rest.all y).0 c)),
  rest.in_order,
)

only_one : (p : Partition) → HasOneMore p []
unfolding IsStrictlySortedBy
only_one p = record {
  new = p ∷ [];
  in_order = (tt, tt);
  all = λ q. (Contains-cases p q [], λ s. ⊎_elim (λ e. subst (Contains (p ∷ [])) e (Contains-head p [])) (λ r. absurd (Contains-none q r)) s);
}

sorted_rest : (x : Partition) (xs : List Partition) → IsStrictlySortedBy by_blocks (x ∷ xs) → IsStrictlySortedBy by_blocks xs
unfolding IsStrictlySortedBy
sorted_rest x xs sorted = sorted.1

one_more : (p : Partition) (list : List Partition) → IsStrictlySortedBy by_blocks list → HasOneMore p list
one_more p [] sorted = only_one p
one_more p (x ∷ xs) sorted = by (by_blocks p x) refl (one_more p xs (sorted_rest x xs sorted))
  where
    by : (o : Ordering) → by_blocks p x ≡ o → HasOneMore p xs → HasOneMore p (x ∷ xs)
    by Less e rest = record {
      new = p ∷ x ∷ xs;
      in_order = before_all p x xs sorted e;
      all = λ q. (Contains-cases p q (x ∷ xs), λ s. ⊎_elim (λ same. subst (Contains (p ∷ x ∷ xs)) same (Contains-head p (x ∷ xs))) (λ r. Contains-tail p q (x ∷ xs) r) s);
    }
    by Equal e rest = record {
      new = x ∷ xs;
      in_order = sorted;
      all = λ q. (λ c. inr c, λ s. ⊎_elim (λ same. subst (Contains (x ∷ xs)) (sym (same_from_tie p x e) ∙ same) (Contains-head x xs)) (λ r. r) s);
    }
    by Greater e rest = record {
      new = x ∷ rest.new;
      in_order = behind_head p x xs rest sorted (by_blocks_total.antisymm x p ∙ ap ordering_reverse e);
      all = λ q. (
        λ c. ⊎_elim
            (λ same. inr (subst (Contains (x ∷ xs)) same (Contains-head x xs)))
            (λ r. ⊎_elim (λ same. inl same) (λ old. inr (Contains-tail x q xs old)) ((rest.all q).0 r))
            (Contains-cases x q rest.new c),
        λ s. ⊎_elim
            (λ same. Contains-tail x q rest.new ((rest.all q).1 (inl same)))
            (λ c. ⊎_elim (λ same. subst (Contains (x ∷ rest.new)) same (Contains-head x rest.new)) (λ old. Contains-tail x q rest.new ((rest.all q).1 (inr old))) (Contains-cases x q xs c))
            s,
      );
    }

none_sorted : IsStrictlySortedBy by_blocks []
unfolding IsStrictlySortedBy
none_sorted = tt

sorted_front : (n : ℕ) (ps : List Partition) → IsStrictlySortedBy by_blocks ps → IsStrictlySortedBy by_blocks (take n ps)
unfolding IsStrictlySortedBy
sorted_front zero ps sorted = tt
sorted_front (suc n) [] sorted = tt
sorted_front (suc n) (p ∷ ps) sorted = (all_take (λ q. by_blocks p q ≡ Less) n ps sorted.0, sorted_front n ps sorted.1)

-- ---- those in a list that pass a test

module _ (P : Partition → Type 0) (decided : (p : Partition) → P p ⊎ (P p → ⊥)) where
  record HasPassing (ps : List Partition) : Type 0 where
    list : List Partition
    in_order : IsStrictlySortedBy by_blocks list
    all : (q : Partition) → Contains list q ↔ (Contains ps q × P q)

  passing : (ps : List Partition) → HasPassing ps
  passing [] = record { list = []; in_order = none_sorted; all = λ q. (λ c. absurd (Contains-none q c), λ b. b.0) }
  passing (p ∷ ps) =
      let rest = passing ps in
      ⊎_elim
      (λ yes.
      let more = one_more p rest.list rest.in_order in
      record {
        list = more.new;
        in_order = more.in_order;
        all = λ q. (
          λ c. ⊎_elim
              (λ same. (subst (Contains (p ∷ ps)) same (Contains-head p ps), subst P same yes))
              (λ r. let b = (rest.all q).0 r in (Contains-tail p q ps b.0, b.1))
              ((more.all q).0 c),
          λ b. (more.all q).1 (⊎_elim (λ same. inl same) (λ r. inr ((rest.all q).1 (r, b.1))) (Contains-cases p q ps b.0)),
        );
      })
      (λ no. record {
        list = rest.list;
        in_order = rest.in_order;
        all = λ q. (
          λ c. let b = (rest.all q).0 c in (Contains-tail p q ps b.0, b.1),
          λ b. (rest.all q).1 (⊎_elim (λ same. absurd (no (subst P (sym same) b.1))) (λ r. r) (Contains-cases p q ps b.0), b.1),
        );
      })
      (decided p)

-- numbers below n, ascending
module _ (P : ℕ → Type 0) (decided : (k : ℕ) → P k ⊎ (P k → ⊥)) where
  record HasNumbers (n : ℕ) : Type 0 where
    numbers : List ℕ
    in_order : IsStrictlyIncreasing numbers
    all : (m : ℕ) → Contains numbers m ↔ ((m < n) × P m)

  numbers_passing : (n : ℕ) → HasNumbers n
  numbers_passing zero = record { numbers = []; in_order = λ k h. absurd (omega (arith, h)); all = λ m. (λ c. absurd (Contains-none m c), λ b. absurd (let w = b.0 in omega (arith, w))) }
  numbers_passing (suc n) =
      let rest = numbers_passing n in
      ⊎_elim
      (λ yes. record {
        numbers = rest.numbers ++ n ∷ [];
        in_order = increasing_push rest.numbers n rest.in_order (λ m c. ((rest.all m).0 c).0);
        all = λ m. (
          λ c. ⊎_elim
              (λ old. let b = (rest.all m).0 old in let w = b.0 in (omega (arith, w), b.1))
              (λ is. (omega (arith, is), subst P is yes))
              (Contains-push_cases rest.numbers n m c),
          λ b. ⊎_elim
              (λ low. Contains-append_left rest.numbers (n ∷ []) m ((rest.all m).1 (low, b.1)))
              (λ high. let w = b.0 in let is : n ≡ m = omega (arith, w, high) in subst (Contains (rest.numbers ++ n ∷ [])) is (Contains-push rest.numbers n))
              (cases_lt m n),
        );
      })
      (λ no. record {
        numbers = rest.numbers;
        in_order = rest.in_order;
        all = λ m. (
          λ c. let b = (rest.all m).0 c in let w = b.0 in (omega (arith, w), b.1),
          λ b. ⊎_elim
              (λ low. (rest.all m).1 (low, b.1))
              (λ high. let w = b.0 in let is : m ≡ n = omega (arith, w, high) in absurd (no (subst P is b.1)))
              (cases_lt m n),
        );
      })
      (decided n)

-- ---- all congruences

-- each element with the leader of its block
abbrev leader_pairs : Partition → List (ℕ × ℕ)
leader_pairs p = map (λ x. (x, slice_index p x)) (range_with_len 0 (length p))

partition_or : (p : Partition) → IsPartition p ⊎ (IsPartition p → ⊥)
partition_or p = ⊎_elim
    (λ low. ⊎_elim
    (λ least. inl (record { low = low; least = least }))
    (λ one. inr (λ h. one.2 (h.least one.0 one.1)))
    (search_below (λ k. slice_index p (slice_index p k) ≡ slice_index p k) (λ k. cases_eq (slice_index p (slice_index p k)) (slice_index p k)) (length p)))
    (λ one. inr (λ h. one.2 (h.low one.0 one.1)))
    (search_below (λ k. slice_index p k ≤ k) (λ k. ⊎_elim (λ high. inr (λ le. omega (arith, high, le))) (λ le. inl le) (cases_lt k (slice_index p k))) (length p))

-- a partition is a congruence if the one that its pairs generate lies below it
module _ (a : FiniteAlgebra) (alg : IsAlgebra a) (p : Partition) (hp : IsPartition p) (size : length p ≡ a.size) where
  leaders_elements : AllByRecursion (AreElements a) (leader_pairs p)
  leaders_elements = all_map (AreElements a) (λ x. (x, slice_index p x)) (range_with_len 0 (length p))
      (all_from_contains (λ x. AreElements a (x, slice_index p x)) (range_with_len 0 (length p)) (λ x c.
      let r = range_low 0 (length p) x c in
      let low = hp.low x (omega (arith, r.1)) in
      (omega (arith, r.1, size), omega (arith, r.1, low, size))))

  leaders_related : RelatesAll p (leader_pairs p)
  leaders_related = all_map (λ (pair : ℕ × ℕ). SameBlock p pair.0 pair.1) (λ x. (x, slice_index p x)) (range_with_len 0 (length p))
      (all_from_contains (λ x. SameBlock p x (slice_index p x)) (range_with_len 0 (length p)) (λ x c.
      let r = range_low 0 (length p) x c in
      let low = hp.low x (omega (arith, r.1)) in
      record { left = omega (arith, r.1); right = omega (arith, r.1, low); same = sym (hp.least x (omega (arith, r.1))) }))

  below_generated : (q : Partition) → IsCongruence a q → RelatesAll q (leader_pairs p) → LiesBelow p q
  below_generated q hq all = below_from_leaders p q (size ∙ sym hq.size) (λ k w.
      let there = Contains-map (λ x. (x, slice_index p x)) k (range_with_len 0 (length p)) (in_range 0 (length p) k (omega arith) (omega (arith, w))) in
      (all_at (λ (pair : ℕ × ℕ). SameBlock q pair.0 pair.1) (leader_pairs p) (k, slice_index p k) all there).same)

  closed_or : IsCongruence a p ⊎ (IsCongruence a p → ⊥)
  closed_or =
      let g = cg_exists a (leader_pairs p) alg leaders_elements in
      let q = g.congruence in
      let hq = g.is.congruence in
      ⊎_elim
      (λ below. inl (subst (IsCongruence a) (below_both q p hq.partition hp below (below_generated q hq g.is.relates)) hq))
      (λ no. inr (λ is. no (g.is.least p is leaders_related)))
      (below_or_not q p hq.partition (hq.size ∙ sym size))

congruence_or : (a : FiniteAlgebra) → IsAlgebra a → (p : Partition) → IsCongruence a p ⊎ (IsCongruence a p → ⊥)
congruence_or a alg p = ⊎_elim
    (λ size. ⊎_elim (λ partition. closed_or a alg p partition size) (λ no. inr (λ is. no is.partition)) (partition_or p))
    (λ other. inr (λ is. other is.size))
    (cases_eq (length p) a.size)

-- a list of n numbers below m is among all of these
among_all : (m : ℕ) (xs : List ℕ) → AllByRecursion (λ x. x < m) xs → IsChoice (replicate (length xs) (range_with_len 0 m)) xs
among_all m [] h = tt
among_all m (x ∷ xs) h = (let w = h.0 in in_range 0 m x (omega arith) (omega (arith, w)), among_all m xs h.1)

list_exists : (a : FiniteAlgebra) → IsAlgebra a → (list : List Partition) × IsCongruenceList a list
list_exists a alg =
    let all = choices (replicate a.size (range_with_len 0 a.size)) in
    let found = passing (IsCongruence a) (congruence_or a alg) all in (
      found.list,
      record {
        in_order = found.in_order;
        all = λ p. (
          λ c. ((found.all p).0 c).1,
          λ is. (found.all p).1 (subst (λ n. Contains (choices (replicate n (range_with_len 0 a.size))) p) is.size (chosen (replicate (length p) (range_with_len 0 a.size)) p (among_all a.size p (elements p is))), is),
        );
      },
    )
  where
    elements : (p : Partition) → IsCongruence a p → AllByRecursion (λ x. x < a.size) p
    elements p is = recursion_from_All (λ x. x < a.size) p (All-from_get_or (λ x. x < a.size) p 0 (λ k w.
        let low = is.partition.low k w in
        let size = is.size in
        omega (arith, low, w, size)))

-- ---- covers

module _ (a : FiniteAlgebra) (alg : IsAlgebra a) (list : List Partition) (whole : IsCongruenceList a list) where
  congruence_at : (i : ℕ) → i < length list → IsCongruence a (at list i)
  congruence_at i w = (whole.all (at list i)).0 (Contains-get_or list i [] w)

  below_or : (p q : Partition) → IsCongruence a p → IsCongruence a q → LiesBelow p q ⊎ (LiesBelow p q → ⊥)
  below_or p q hp hq = below_or_not p q hp.partition (hp.size ∙ sym hq.size)

  module _ (alpha beta : Partition) (ca : IsCongruence a alpha) (cb : IsCongruence a beta) where
    -- strictly between the two
    record IsBetween (r : Partition) : Type 0 where
      congruence : IsCongruence a r
      above : LiesBelow alpha r
      below : LiesBelow r beta
      not_below : ¬ LiesBelow r alpha
      not_above : ¬ LiesBelow beta r

    between_or : (r : Partition) → IsCongruence a r → IsBetween r ⊎ (IsBetween r → ⊥)
    between_or r hr = ⊎_elim
        (λ above. ⊎_elim
        (λ below. ⊎_elim
        (λ same. inr (λ h. h.not_below same))
        (λ not_below. ⊎_elim
        (λ same. inr (λ h. h.not_above same))
        (λ not_above. inl (record { congruence = hr; above = above; below = below; not_below = not_below; not_above = not_above }))
        (below_or beta r cb hr))
        (below_or r alpha hr ca))
        (λ no. inr (λ h. no h.below))
        (below_or r beta hr cb))
        (λ no. inr (λ h. no h.above))
        (below_or alpha r ca hr)

    cover_or : IsCover a alpha beta ⊎ (IsCover a alpha beta → ⊥)
    cover_or = ⊎_elim
        (λ below. ⊎_elim
        (λ back. inr (λ h. h.differ (below_both alpha beta ca.partition cb.partition below back)))
        (λ not_back. ⊎_elim
        (λ (r : IsFirstOf (λ (q : Partition). []) IsBetween list).
        let q = r.item in
        let is = r.passes in
        inr (λ h.
        let same = h.next q is.congruence is.above is.below (λ e. is.not_below (subst (LiesBelow q) e (below_itself q))) in
        is.not_above (subst (λ (p : Partition). LiesBelow p q) same (below_itself q))))
        (λ none. inl (record {
          lower = ca;
          upper = cb;
          below = below;
          differ = λ e. not_back (subst (λ (p : Partition). LiesBelow p alpha) e (below_itself alpha));
          next = λ r hr above under apart. ⊎_elim
              (λ up. below_both r beta hr.partition cb.partition under up)
              (λ not_above. ⊎_elim
              (λ down. absurd (apart (below_both r alpha hr.partition ca.partition down above)))
              (λ not_below. absurd (none r ((whole.all r).1 hr) (record { congruence = hr; above = above; below = under; not_below = not_below; not_above = not_above })))
              (below_or r alpha hr ca))
              (below_or beta r cb hr);
        }))
        (first_of (λ (q : Partition). []) IsBetween (λ q. ⊎_elim (λ hq. between_or q hq) (λ no. inr (λ h. no h.congruence)) (congruence_or a alg q)) list))
        (below_or beta alpha cb ca))
        (λ no. inr (λ h. no h.below))
        (below_or alpha beta ca cb)

  covers_at : (i : ℕ) → i < length list → (places : List ℕ) × AreUpperCovers a list i places
  covers_at i w =
      let found = numbers_passing (λ j. (j < length list) × IsCover a (at list i) (at list j)) decided (length list) in
      (found.numbers, record { in_order = found.in_order; all = λ j. (λ c. ((found.all j).0 c).1, λ b. (found.all j).1 (b.0, b)) })
    where
      decided : (j : ℕ) → ((j < length list) × IsCover a (at list i) (at list j)) ⊎ ((j < length list) × IsCover a (at list i) (at list j) → ⊥)
      decided j = ⊎_elim
          (λ low. ⊎_elim (λ is. inl (low, is)) (λ no. inr (λ b. no b.1)) (cover_or (at list i) (at list j) (congruence_at i w) (congruence_at j low)))
          (λ high. inr (λ b. let l = b.0 in omega (arith, l, high)))
          (cases_lt j (length list))

  -- the covers of the first n places, with their number
  record HasCovers (n : ℕ) : Type 0 where
    pairs : List (ℕ × ℕ)
    covers : AreCoversOfFirst a list n pairs
    few : length pairs ≤ n * length list

  covers_first : (n : ℕ) → n ≤ length list → HasCovers n
  covers_first zero h = record { pairs = []; covers = covers_none a list [] refl; few = omega arith }
  covers_first (suc n) h =
      let rest = covers_first n (omega (arith, h)) in
      let least = covers_at n (omega (arith, h)) in
      let low = set_few least.0 (length list) least.1.in_order (all_from_contains (λ j. j < length list) least.0 (λ j c. ((least.1.all j).0 c).0)) in
      let next : n + 1 ≡ suc n = omega arith in
      let count = length-append rest.pairs (pairs_from n least.0) in
      let same = length-map {B = ℕ × ℕ} least.0 (λ (j : ℕ). (n, j)) in
      let before = rest.few in
      let more : suc n * length list ≡ n * length list + length list = omega arith in
      record {
        pairs = rest.pairs ++ pairs_from n least.0;
        covers = subst (λ m. AreCoversOfFirst a list m (rest.pairs ++ pairs_from n least.0)) next (covers_more a list n rest.pairs least.0 rest.covers least.1);
        few = omega (arith, count, same, low, before, more);
      }

-- ---- what is told

-- a list as it would lie in memory
abbrev vec_of : {X : Type 0} → Global → (xs : List X) → length xs < 2 ^ 63 → Vec X Global
vec_of alloc xs small = record { ptr = null_ptr; len = length xs; cap = length xs; alloc = alloc; items = xs; ok = (refl, omega arith); small = small }

module _ (alloc : Global) (a : FiniteAlgebra) (budget : ℕ) (alg : IsAlgebra a) (few : budget ≤ BUDGET) where
  whole_told : (list : List Partition) → IsCongruenceList a list → length list ≤ budget → HasLattice a budget
  whole_told list whole within =
      let found = covers_first a alg list whole (length list) (omega arith) in
      let covers = covers_all a list (length list) found.pairs refl found.covers in
      let counted = numbers_passing (λ j. lower_covers found.pairs j ≡ 1) (λ j. cases_eq (lower_covers found.pairs j) 1) (length list) in
      let irreducible = irreducible_all found.pairs (length list) counted.numbers (record { in_order = counted.in_order; all = counted.all }) (covers_within a list found.pairs covers) in
      let low = set_few counted.numbers (length list) counted.in_order (all_from_contains (λ j. j < length list) counted.numbers (λ j c. ((counted.all j).0 c).0)) in
      let many = found.few in
      let low_list : length list ≤ BUDGET = omega (arith, within, few) in
      let square : length list * length list ≤ BUDGET * BUDGET = mul-le-mul low_list low_list in
      record {
        lattice = Whole (vec_of alloc list (omega (arith, within, few))) (vec_of alloc found.pairs (omega (arith, many, square))) (vec_of alloc counted.numbers (omega (arith, low, within, few)));
        is = record { all_of_them = whole; within = within; covering = covers; irreducible = irreducible };
      }

  exceeding_told : (list : List Partition) → IsCongruenceList a list → budget < length list → HasLattice a budget
  exceeding_told list whole beyond =
      let front = take (budget + 1) list in
      let count = length-take-le (budget + 1) list (omega (arith, beyond)) in
      let congruences = all_take (IsCongruence a) (budget + 1) list (all_from_contains (IsCongruence a) list (λ p c. (whole.all p).0 c)) in
      record {
        lattice = Exceeds (vec_of alloc front (omega (arith, count, few)));
        is = record { congruences = record { in_order = sorted_front (budget + 1) list whole.in_order; congruences = congruences }; beyond = count };
      }

  pub lattice_told : HasLattice a budget
  lattice_told =
      let found = list_exists a alg in
      ⊎_elim (λ beyond. exceeding_told found.0 found.1 beyond) (λ within. whole_told found.0 found.1 within) (cases_lt budget (length found.0))
