-- What is known stays right as subtraces are met and pairs are settled.
use Rattle.std.proofs.Common.{◌≡◌, ◌≢◌, ◌⊎◌, inl, inr, ⊎_elim, ℕ, ◌+◌, ◌<◌, ◌≤◌, ◌==◌, ◌&&◌, Bool, true, false, cond, List, [], ◌∷◌, length, replicate, refl, sym, ap, ◌∙◌, subst, arith, Option, Some, None}
use Rattle.std.specs.Prelude.{Contains, IfSome, slice_index, slice_index_or}
use Rattle.std.specs.List.{AllByRecursion}
use Rattle.std.specs.Option.{IsSomeAnd}
use Rattle.std.specs.HashSet.{contains}
use Rattle.std.proofs.lemmas.Bool.{cases_lt, eq-eqb}
use Rattle.std.proofs.lemmas.List.{get_or_default}
use Rattle.ua_table.specs.Algebras.{Vector, FiniteAlgebra}
use Rattle.ua_table.specs.Listings.{Row, vectors_of}
use Rattle.ua_table.proofs.Lists.{all_at}
use Rattle.ua_table.proofs.ListingLaws.{closed_has_no_more}
use Rattle.ua_part.specs.Labels.{same_labels}
use Rattle.ua_part.specs.Partitions.{Partition, SameBlock}
use Rattle.ua_prod.specs.Congruences.{IsCongruence}
use Rattle.ua_type.specs.declared.known.SubtracePair.{SubtracePair}
use Rattle.ua_type.specs.declared.known.Known.{Known}
use Rattle.ua_type.specs.Subtraces.{pair_generators, Generates, IsBefore}
use Rattle.ua_type.specs.Trials.{HasMorePairs, ArePairsNarrow}
use Rattle.ua_type.specs.inner.Outcomes.{IsVain}
use Rattle.ua_type.specs.Known.{IsSettled, AreSettled, IsMet, IsPairOf, IsLeastMet, IsRight}
use Rattle.ua_type.specs.inner.Known.{IsRelated, IsEarlier, AreMetBelow, IsKept}
use Rattle.ua_type.specs.inner.Descents.{AreGenerated, LeadsTo}
use Rattle.ua_type.proofs.GeneratedPairs.{generates_itself, generates_through, generates_related, no_more_pairs}
use Rattle.ua_type.proofs.Descent.{same_from}
use Rattle.ua_type.proofs.PairLaws.{pair_cases}

-- ---- the order of pairs

before_through : (a b c d e f : ℕ) → IsBefore a b c d → IsBefore c d e f → IsBefore a b e f
before_through a b c d e f one two =
    ⊎_elim
    (λ low. ⊎_elim (λ less. inl (omega (arith, low, less))) (λ same. inl (subst (λ u. a < u) same.0 low)) two)
    (λ same. ⊎_elim (λ less. inl (subst (λ u. u < e) (sym same.0) less)) (λ equal. inr (same.0 ∙ equal.0, (let l = same.1 in let m = equal.1 in omega (arith, l, m)))) two)
    one

-- what is not before a pair is not before one that is not after it
pub not_before : (a b c d e f : ℕ) → ¬ IsBefore a b c d → ¬ IsBefore c d e f → ¬ IsBefore a b e f
not_before a b c d e f one two here =
    ⊎_elim two
    (λ rest. ⊎_elim
    (λ same. one (subst (λ u. IsBefore a b u d) (sym same.0) (subst (λ u. IsBefore a b e u) (sym same.1) here)))
    (λ behind. one (before_through a b e f c d here behind))
    rest)
    (pair_cases c d e f)

-- ---- settled pairs

module _ (b : FiniteAlgebra) (budget : ℕ) where
  -- a subtrace that is not after the old one settles as many
  settled_earlier : (old new : SubtracePair) (x y : ℕ) → ¬ IsBefore old.low old.high new.low new.high → IsSettled b budget old x y → IsSettled b budget new x y
  settled_earlier old new x y order h = record {
    within = h.within;
    first = h.first;
    second = h.second;
    generated = h.generated;
    differ = h.differ;
    none_before = λ c d g n. not_before c d old.low old.high new.low new.high (h.none_before c d g n) order;
  }

  pub settled_above : (least : SubtracePair) (pair q : ℕ × ℕ) → LeadsTo b budget pair q → IsSettled b budget least pair.0 pair.1 → IsSettled b budget least q.0 q.1
  settled_above least pair q leads h = record {
    within = leads.0;
    first = h.first;
    second = h.second;
    generated = generates_through b q.0 q.1 pair.0 pair.1 h.first h.second leads.1 h.generated;
    differ = h.differ;
    none_before = h.none_before;
  }

  -- a settled pair before the subtrace is no subtrace
  pub settled_vain : (least : SubtracePair) (x y : ℕ) → x ≢ y → IsBefore x y least.low least.high → IsSettled b budget least x y → IsVain b budget x y
  settled_vain least x y differ before h = record {
    within = h.within;
    refuted = record { first = h.first; second = h.second; generated = h.generated; differ = h.differ; lacks = λ g. h.none_before x y g differ before };
  }

  pub settled_after_meeting : (old new : Option SubtracePair) (holds : ℕ × ℕ → Bool) → IfSome old (λ o. IsSomeAnd new (λ n. ¬ IsBefore o.low o.high n.low n.high)) → AreSettled b budget old holds → AreSettled b budget new holds
  settled_after_meeting None None holds order h = h
  settled_after_meeting None (Some n) holds order h = λ q e. let f = h q in absurd (cc)
  settled_after_meeting (Some o) None holds order h = absurd order
  settled_after_meeting (Some o) (Some n) holds order h = λ q e. settled_earlier o n q.0 q.1 order (h q e)

  pub settled_more : (least : Option SubtracePair) (old new : ℕ × ℕ → Bool) (pairs : List (ℕ × ℕ))
      → ((q : ℕ × ℕ) → new q ≡ true → (old q ≡ true) ⊎ Contains pairs q)
      → IsSomeAnd least (λ l. (q : ℕ × ℕ) → Contains pairs q → IsSettled b budget l q.0 q.1) → AreSettled b budget least old
      → AreSettled b budget least new
  settled_more None old new pairs more all h = absurd all
  settled_more (Some l) old new pairs more all h = λ q e. ⊎_elim (λ before. h q before) (λ c. all q c) (more q e)

  pub settled_is : (least : Option SubtracePair) (holds : ℕ × ℕ → Bool) → AreSettled b budget least holds → (q : ℕ × ℕ) → holds q ≡ true → IsSomeAnd least (λ l. IsSettled b budget l q.0 q.1)
  settled_is None holds h q e = let f = h q in absurd (cc)
  settled_is (Some l) holds h q e = h q e

  all_settled : (pair : ℕ × ℕ) (above : List (ℕ × ℕ)) → AllByRecursion (LeadsTo b budget pair) above → (least : Option SubtracePair)
      → IsSomeAnd least (λ l. IsSettled b budget l pair.0 pair.1)
      → IsSomeAnd least (λ l. (q : ℕ × ℕ) → Contains above q → IsSettled b budget l q.0 q.1)
  all_settled pair above leads None h = absurd h
  all_settled pair above leads (Some l) h = λ q c. settled_above l pair q (all_at (LeadsTo b budget pair) above q leads c) h

  -- the pairs above a settled pair are settled
  pub settle_kept : (x y : ℕ) (old new : Known) (pair : ℕ × ℕ) (above : List (ℕ × ℕ)) → IsRight b budget old → new.least ≡ old.least
      → ((q : ℕ × ℕ) → contains same_labels new.settled q ≡ true → (contains same_labels old.settled q ≡ true) ⊎ Contains above q)
      → IsSomeAnd old.least (λ l. IsSettled b budget l pair.0 pair.1) → AllByRecursion (LeadsTo b budget pair) above → IsKept b budget x y old new
  settle_kept x y old new pair above right same more settled leads = record {
    right = record {
      met = subst (λ o. IfSome o (IsMet b budget)) (sym same) right.met;
      settled = subst (λ o. AreSettled b budget o (contains same_labels new.settled)) (sym same)
          (settled_more old.least (contains same_labels old.settled) (contains same_labels new.settled) above more (all_settled pair above leads old.least settled) right.settled);
    };
    related = λ theta cb s h. subst (IsRelated theta) (sym same) h;
  }

pub kept_twice : (b : FiniteAlgebra) (budget x y : ℕ) (old mid new : Known) → IsKept b budget x y old mid → IsKept b budget x y mid new → IsKept b budget x y old new
kept_twice b budget x y old mid new one two = record { right = two.right; related = λ theta cb s h. two.related theta cb s (one.related theta cb s h) }

-- what is kept where a generated pair is tried is kept
pub kept_down : (b : FiniteAlgebra) (budget x y u v : ℕ) (old new : Known) → Generates b x y u v → IsKept b budget u v old new → IsKept b budget x y old new
kept_down b budget x y u v old new g h = record { right = h.right; related = λ theta cb s before. h.related theta cb (generates_related b theta cb x y s u v g) before }

-- ---- what is known of a pair before it is tried

-- a pair that the subtrace does not stand before, and is not, stands before it
pub ahead : (least : SubtracePair) (pair : ℕ × ℕ) → ¬ IsBefore least.low least.high pair.0 pair.1 → ¬ ((pair.0 ≡ least.low) × (pair.1 ≡ least.high)) → IsBefore pair.0 pair.1 least.low least.high
ahead least pair order apart =
    ⊎_elim (λ before. before) (λ rest. ⊎_elim (λ same. absurd (apart same)) (λ behind. absurd (order behind)) rest) (pair_cases pair.0 pair.1 least.low least.high)

pub known_vain : (b : FiniteAlgebra) (budget : ℕ) (pair : ℕ × ℕ) → pair.0 ≢ pair.1 → (least : Option SubtracePair)
    → IfSome least (λ l. IsBefore pair.0 pair.1 l.low l.high) → IsSomeAnd least (λ l. IsSettled b budget l pair.0 pair.1)
    → IsVain b budget pair.0 pair.1
known_vain b budget pair differ None before h = absurd h
known_vain b budget pair differ (Some l) before h = settled_vain b budget l pair.0 pair.1 differ before h

-- ---- the subtraces of a class

module _ (b : FiniteAlgebra) (budget x y : ℕ) (narrow : ArePairsNarrow b budget) (rows : List Row) (closed : AreGenerated b budget (x, y) rows) (minimal : (c d : ℕ) → Generates b x y c d → c ≢ d → Generates b c d x y) where
  abbrev vs : List Vector
  vs = vectors_of rows

  within : ¬ HasMorePairs b budget x y
  within = closed_has_no_more (replicate 2 b) (pair_generators b x y) budget rows closed

  pub class_met : (n : SubtracePair) → IsPairOf vs n → IsMet b budget n
  class_met n h =
      let g : Generates b x y n.low n.high = (closed.exact (n.low ∷ n.high ∷ [])).0 h.contained in
      let back : Generates b n.low n.high x y = minimal n.low n.high g h.differ in
      record {
        narrow = narrow;
        differ = h.differ;
        minimal = record {
          within = λ more. within (no_more_pairs b budget x y n.low n.high g more);
          minimal = λ c d s apart. generates_through b c d x y n.low n.high (minimal c d (generates_through b x y n.low n.high c d g s) apart) g;
          swaps = (
            λ t. generates_through b n.low n.high x y n.high n.low back ((closed.exact (n.high ∷ n.low ∷ [])).0 (h.swaps.0 t)),
            λ s. h.swaps.1 ((closed.exact (n.high ∷ n.low ∷ [])).1 (generates_through b x y n.low n.high n.high n.low g s)),
          );
        };
      }

  met_some : (new : Option SubtracePair) → IsSomeAnd new (IsPairOf vs) → IfSome new (IsMet b budget)
  met_some None h = absurd h
  met_some (Some n) h = class_met n h

  pub met_after : (old new : Option SubtracePair) → IsLeastMet old vs new → IfSome old (IsMet b budget) → IfSome new (IsMet b budget)
  met_after old new h before = ⊎_elim (λ same. subst (λ o. IfSome o (IsMet b budget)) (sym same) before) (λ among. met_some new among) h.comes

  related_some : (theta : Partition) → IsCongruence b theta → SameBlock theta x y → (new : Option SubtracePair) → IsSomeAnd new (IsPairOf vs) → IsRelated theta new
  related_some theta cb s None h = absurd h
  related_some theta cb s (Some n) h = generates_related b theta cb x y s n.low n.high ((closed.exact (n.low ∷ n.high ∷ [])).0 h.contained)

  pub related_after : (theta : Partition) → IsCongruence b theta → SameBlock theta x y → (old new : Option SubtracePair) → IsLeastMet old vs new → IsRelated theta old → IsRelated theta new
  related_after theta cb s old new h before = ⊎_elim (λ same. subst (IsRelated theta) (sym same) before) (λ among. related_some theta cb s new among) h.comes

  pub settled_class : x ≢ y → (old new : Option SubtracePair) → IsLeastMet old vs new → IsSomeAnd new (λ n. IsSettled b budget n x y)
  settled_class differ old None h = absurd (h.none_before x y ((closed.exact (x ∷ y ∷ [])).1 (generates_itself b x y)) differ)
  settled_class differ old (Some n) h = record {
    within = within;
    first = x;
    second = y;
    generated = generates_itself b x y;
    differ = differ;
    none_before = λ c d g apart. h.none_before c d ((closed.exact (c ∷ d ∷ [])).1 g) apart;
  }

  -- the subtraces of a class that (u,v) generates are met
  pub meet_kept : (u v : ℕ) → Generates b u v x y → (old new : Known) → IsRight b budget old → new.settled ≡ old.settled → IsLeastMet old.least vs new.least → IsKept b budget u v old new
  meet_kept u v g old new right same h = record {
    right = record {
      met = met_after old.least new.least h right.met;
      settled = subst (λ s. AreSettled b budget new.least (contains same_labels s)) (sym same)
          (settled_after_meeting b budget old.least new.least (contains same_labels old.settled) h.old_not_before right.settled);
    };
    related = λ theta cb s before. related_after theta cb (generates_related b theta cb u v s x y g) old.least new.least h before;
  }

-- ---- how the least subtrace is found among the pairs of a listing

-- a vector of two elements
pub two : (v : Vector) → length v ≡ 2 → v ≡ slice_index v 0 ∷ slice_index v 1 ∷ []
two [] h = absurd (omega (arith, h))
two (x ∷ []) h = absurd (omega (arith, h))
two (x ∷ y ∷ []) h = refl
two (x ∷ y ∷ z ∷ rest) h = absurd (omega (arith, h))

-- what is not before the one is not before a least that is not after it
module _ (least : SubtracePair) (c d : ℕ) where
  through : (mid : Option SubtracePair) → IfSome mid (λ o. ¬ IsBefore o.low o.high least.low least.high) → IsSomeAnd mid (λ m. ¬ IsBefore c d m.low m.high) → ¬ IsBefore c d least.low least.high
  through None order h = absurd h
  through (Some m) order h = not_before c d m.low m.high least.low least.high h order

module _ (old : Option SubtracePair) (vs : List Vector) (i : ℕ) where
  pub none_met : AreMetBelow old vs 0 old
  none_met = record { comes = inl refl; none_before = λ j w. absurd (omega (arith, w)); old_not_before = itself old }
    where
      never : (c d : ℕ) → ¬ IsBefore c d c d
      never c d before = ⊎_elim (λ less. omega (arith, less)) (λ same. let l = same.1 in omega (arith, l)) before

      itself : (o : Option SubtracePair) → IfSome o (λ m. IsSomeAnd o (λ n. ¬ IsBefore m.low m.high n.low n.high))
      itself None = tt
      itself (Some m) = never m.low m.high

  pub met_same : (mid : Option SubtracePair) → slice_index (slice_index_or vs i []) 0 ≡ slice_index (slice_index_or vs i []) 1 → AreMetBelow old vs i mid → AreMetBelow old vs (i + 1) mid
  met_same mid same h = record {
    comes = h.comes;
    none_before = λ j w apart. ⊎_elim
        (λ less. h.none_before j less apart)
        (λ more. let is : j ≡ i = omega (arith, w, more) in absurd (subst (λ k. slice_index (slice_index_or vs k []) 0 ≢ slice_index (slice_index_or vs k []) 1) is apart same))
        (cases_lt j i);
    old_not_before = h.old_not_before;
  }

  module _ (pair : SubtracePair) (here : slice_index_or vs i [] ≡ pair.low ∷ pair.high ∷ []) (among : IsPairOf vs pair) (mid new : Option SubtracePair) (earlier : IsEarlier mid pair new) (h : AreMetBelow old vs i mid) where
    comes : (new ≡ old) ⊎ IsSomeAnd new (IsPairOf vs)
    comes = ⊎_elim
        (λ this. inr (subst (λ o. IsSomeAnd o (IsPairOf vs)) (sym earlier.is) (subst (IsPairOf vs) (sym this) among)))
        (λ that. let same : mid ≡ new = that ∙ sym earlier.is in ⊎_elim (λ e. inl (sym same ∙ e)) (λ some. inr (subst (λ o. IsSomeAnd o (IsPairOf vs)) same some)) h.comes)
        earlier.comes

    not_before_least : (c d : ℕ) → IsSomeAnd mid (λ m. ¬ IsBefore c d m.low m.high) → IsSomeAnd new (λ m. ¬ IsBefore c d m.low m.high)
    not_before_least c d before = subst (λ o. IsSomeAnd o (λ m. ¬ IsBefore c d m.low m.high)) (sym earlier.is) (through earlier.least c d mid earlier.old_not_before before)

    pair_here : IsSomeAnd new (λ m. ¬ IsBefore (slice_index (slice_index_or vs i []) 0) (slice_index (slice_index_or vs i []) 1) m.low m.high)
    pair_here = subst (λ o. IsSomeAnd o (λ m. ¬ IsBefore (slice_index (slice_index_or vs i []) 0) (slice_index (slice_index_or vs i []) 1) m.low m.high)) (sym earlier.is)
        (subst (λ (v : Vector). ¬ IsBefore (slice_index v 0) (slice_index v 1) earlier.least.low earlier.least.high) (sym here) earlier.pair_not_before)

    old_here : (o : Option SubtracePair) → IfSome o (λ m. IsSomeAnd mid (λ n. ¬ IsBefore m.low m.high n.low n.high)) → IfSome o (λ m. IsSomeAnd new (λ n. ¬ IsBefore m.low m.high n.low n.high))
    old_here None before = tt
    old_here (Some m) before = not_before_least m.low m.high before

    pub met_more : AreMetBelow old vs (i + 1) new
    met_more = record {
      comes = comes;
      none_before = λ j w apart. ⊎_elim
          (λ less. not_before_least (slice_index (slice_index_or vs j []) 0) (slice_index (slice_index_or vs j []) 1) (h.none_before j less apart))
          (λ more. let is : i ≡ j = omega (arith, w, more) in subst (λ k. IsSomeAnd new (λ m. ¬ IsBefore (slice_index (slice_index_or vs k []) 0) (slice_index (slice_index_or vs k []) 1) m.low m.high)) is pair_here)
          (cases_lt j i);
      old_not_before = old_here old h.old_not_before;
    }

pub met_all : (old new : Option SubtracePair) (vs : List Vector) (n : ℕ) → length vs ≤ n → AreMetBelow old vs n new → IsLeastMet old vs new
met_all old new vs n all h = record {
  comes = h.comes;
  none_before = λ c d there apart.
      let at : slice_index_or vs there.0 [] ≡ c ∷ d ∷ [] = get_or_default vs there.0 [] (c ∷ d ∷ []) there.1 ∙ there.2 in
      let low = there.1 in
      subst (λ (v : Vector). slice_index v 0 ≢ slice_index v 1 → IsSomeAnd new (λ m. ¬ IsBefore (slice_index v 0) (slice_index v 1) m.low m.high)) at (h.none_before there.0 (omega (arith, low, all))) apart;
  old_not_before = h.old_not_before;
}

-- ---- sets of pairs

pub put_in : (before after first : ℕ × ℕ → Bool) (pair : ℕ × ℕ) (pairs : List (ℕ × ℕ))
    → ((q : ℕ × ℕ) → after q ≡ cond (same_labels pair q) true (before q)) → Contains pairs pair
    → ((q : ℕ × ℕ) → before q ≡ true → (first q ≡ true) ⊎ Contains pairs q) → (q : ℕ × ℕ) → after q ≡ true → (first q ≡ true) ⊎ Contains pairs q
put_in before after first pair pairs put there h q e = by (same_labels pair q) refl
  where
    by : (t : Bool) → t ≡ same_labels pair q → (first q ≡ true) ⊎ Contains pairs q
    by true is = inr (subst (Contains pairs) (same_from pair q (sym is)) there)
    by false is = h q (sym (put q ∙ ap (λ t. cond t true (before q)) (sym is)) ∙ e)

pub put_kept : (before after : ℕ × ℕ → Bool) (pair : ℕ × ℕ) → ((q : ℕ × ℕ) → after q ≡ cond (same_labels pair q) true (before q)) → (q : ℕ × ℕ) → before q ≡ true → after q ≡ true
put_kept before after pair put q e = put q ∙ by (same_labels pair q)
  where
    by : (t : Bool) → cond t true (before q) ≡ true
    by true = refl
    by false = e

pub put_there : (before after : ℕ × ℕ → Bool) (pair : ℕ × ℕ) → ((q : ℕ × ℕ) → after q ≡ cond (same_labels pair q) true (before q)) → after pair ≡ true
put_there before after pair put = put pair ∙ ap (λ t. cond t true (before pair)) (same_itself pair)
  where
    same_itself : (p : ℕ × ℕ) → same_labels p p ≡ true
    same_itself p = ap (λ b. b && (p.1 == p.1)) (eq-eqb p.0 p.0 refl) ∙ eq-eqb p.1 p.1 refl
