-- The least congruence that meets a demand: from equality on, two blocks are made one as long as an operation or the demand asks for it.
use Rattle.std.proofs.Common.{◌≡◌, ◌⊎◌, inl, inr, ⊎_elim, ℕ, zero, suc, ◌<◌, List, [], ◌∷◌, length, replicate, sym, ◌∙◌, subst, arith}
use Rattle.std.specs.Prelude.{Contains, slice_index}
use Rattle.std.specs.List.{AllByRecursion, AllZip, range_with_len}
use Rattle.std.proofs.lemmas.Bool.{cases_eq, cases_lt}
use Rattle.std.proofs.lemmas.List.FromFn.{length-range_with_len}
use Rattle.ua_table.specs.Algebras.{FiniteAlgebra, IsAlgebra, arities_of, value_at}
use Rattle.ua_table.specs.Counting.{total}
use Rattle.ua_table.specs.Numbering.{choices}
use Rattle.ua_table.proofs.ApplyLaws.{value-below}
use Rattle.ua_table.proofs.Choices.{IsChoice, chosen, in_range, range_low}
use Rattle.ua_table.proofs.Lists.{Contains-head, Contains-tail, all_at, AllZip-length}
use Rattle.ua_part.specs.Partitions.{Partition, IsPartition, SameBlock, LiesBelow, identity_on, merged}
use Rattle.ua_part.proofs.MergeLaws.{length-merged, merged-IsPartition, merged-least}
use Rattle.ua_part.proofs.PartitionLaws.{identity-IsPartition, identity-same, same_itself}
use Rattle.ua_prod.specs.Congruences.{IsCongruence, RelatesAll}
use Rattle.ua_prod.proofs.CongruenceLaws.{zip_left, zip_right}
use Rattle.ua_cong.specs.Closings.{AreElements}
use Rattle.ua_cong.specs.Generated.{HasCg}
use Rattle.ua_cong.proofs.ClosingLaws.{merged_total}

-- ---- searches that end

-- either it holds of all, or it comes to something else
pub all_or : {X : Type 0} (P : X → Type 0) (R : Type 0) (xs : List X) → ((x : X) → Contains xs x → P x ⊎ R) → AllByRecursion P xs ⊎ R
all_or P R [] each = inl tt
all_or P R (x ∷ xs) each =
    ⊎_elim
    (λ here. ⊎_elim (λ rest. inl (here, rest)) (λ r. inr r) (all_or P R xs (λ y c. each y (Contains-tail x y xs c))))
    (λ r. inr r)
    (each x (Contains-head x xs))

-- the lists of so many elements
abbrev tuples : ℕ → ℕ → List (List ℕ)
tuples n k = choices (replicate k (range_with_len 0 n))

tuple_in : (n : ℕ) (xs : List ℕ) → AllByRecursion (λ x. x < n) xs → Contains (tuples n (length xs)) xs
tuple_in n xs h = chosen (replicate (length xs) (range_with_len 0 n)) xs (each xs h)
  where
    each : (ys : List ℕ) → AllByRecursion (λ y. y < n) ys → IsChoice (replicate (length ys) (range_with_len 0 n)) ys
    each [] h = tt
    each (y ∷ ys) h = (let w = h.0 in in_range 0 n y (omega arith) (omega (arith, w)), each ys h.1)

pub same_or : (p : Partition) (x y : ℕ) → SameBlock p x y ⊎ (SameBlock p x y → ⊥)
same_or p x y =
    ⊎_elim
    (λ left. ⊎_elim
    (λ right. ⊎_elim (λ e. inl (record { left = left; right = right; same = e })) (λ n. inr (λ s. n s.same)) (cases_eq (slice_index p x) (slice_index p y)))
    (λ high. inr (λ s. let r = s.right in absurd (omega (arith, r, high))))
    (cases_lt y (length p)))
    (λ high. inr (λ s. let l = s.left in absurd (omega (arith, l, high))))
    (cases_lt x (length p))

zip_or : (p : Partition) (xs ys : List ℕ) → AllZip (SameBlock p) xs ys ⊎ (AllZip (SameBlock p) xs ys → ⊥)
zip_or p [] [] = inl tt
zip_or p [] (y ∷ ys) = inr (λ h. h)
zip_or p (x ∷ xs) [] = inr (λ h. h)
zip_or p (x ∷ xs) (y ∷ ys) =
    ⊎_elim
    (λ s. ⊎_elim (λ rest. inl (s, rest)) (λ n. inr (λ h. n h.1)) (zip_or p xs ys))
    (λ n. inr (λ h. n h.0))
    (same_or p x y)

-- what p relates place by place, q relates
zip_above : (p q : Partition) → LiesBelow p q → (xs ys : List ℕ) → AllZip (SameBlock p) xs ys → AllZip (SameBlock q) xs ys
zip_above p q below [] [] h = tt
zip_above p q below [] (y ∷ ys) h = absurd h
zip_above p q below (x ∷ xs) [] h = absurd h
zip_above p q below (x ∷ xs) (y ∷ ys) h = (below x y h.0, zip_above p q below xs ys h.1)

-- ---- the least congruence that meets a demand

module _ (a : FiniteAlgebra) (alg : IsAlgebra a) (Meets : Partition → Type 0) where
  -- a partition of the elements that lies below every congruence that meets it
  pub record IsLow (p : Partition) : Type 0 where
    pub partition : IsPartition p
    pub size : length p ≡ a.size
    pub within : (q : Partition) → IsCongruence a q → Meets q → LiesBelow p q

  -- two elements in different blocks that each such congruence relates
  pub record Asked (p : Partition) : Type 0 where
    pub x : ℕ
    pub y : ℕ
    pub left : x < length p
    pub right : y < length p
    pub apart : slice_index p x ≡ slice_index p y → ⊥
    pub forced : (q : Partition) → IsCongruence a q → Meets q → SameBlock q x y

  pub record IsLeastMeeting (p : Partition) : Type 0 where
    pub congruence : IsCongruence a p
    pub meets : Meets p
    pub least : (q : Partition) → IsCongruence a q → Meets q → LiesBelow p q

  module _ (p : Partition) (h : IsLow p) where
    -- operation f takes the two lists to related elements, if they are related and as long as it asks
    abbrev Carries : ℕ → List ℕ → List ℕ → Type 0
    Carries f xs ys = length xs ≡ slice_index (arities_of a) f → AllZip (SameBlock p) xs ys → SameBlock p (value_at a f xs) (value_at a f ys)

    lists_or : (f : ℕ) → f < length (arities_of a) → (xs ys : List ℕ) → Carries f xs ys ⊎ Asked p
    lists_or f fw xs ys =
        ⊎_elim
        (λ count. ⊎_elim
        (λ z.
        let one = value-below a f xs alg fw count (zip_left p a.size h.size xs ys z) in
        let two = value-below a f ys alg fw (sym (AllZip-length (SameBlock p) xs ys z) ∙ count) (zip_right p a.size h.size xs ys z) in
        let n = h.size in
        let left : value_at a f xs < length p = omega (arith, one, n) in
        let right : value_at a f ys < length p = omega (arith, two, n) in
        ⊎_elim
        (λ e. inl (λ c r. record { left = left; right = right; same = e }))
        (λ n. inr (record { x = value_at a f xs; y = value_at a f ys; left = left; right = right; apart = n; forced = λ q cq all. cq.compatible f xs ys fw count (zip_above p q (h.within q cq all) xs ys z) }))
        (cases_eq (slice_index p (value_at a f xs)) (slice_index p (value_at a f ys))))
        (λ n. inl (λ c r. absurd (n r)))
        (zip_or p xs ys))
        (λ n. inl (λ c r. absurd (n c)))
        (cases_eq (length xs) (slice_index (arities_of a) f))

    -- operation f does so with all lists
    abbrev CarriesAll : ℕ → Type 0
    CarriesAll f = AllByRecursion (λ (xs : List ℕ). AllByRecursion (Carries f xs) (tuples a.size (slice_index (arities_of a) f))) (tuples a.size (slice_index (arities_of a) f))

    operation_or : (f : ℕ) → f < length (arities_of a) → CarriesAll f ⊎ Asked p
    operation_or f fw =
        let lists = tuples a.size (slice_index (arities_of a) f) in
        all_or (λ (xs : List ℕ). AllByRecursion (Carries f xs) lists) (Asked p) lists (λ xs _. all_or (Carries f xs) (Asked p) lists (λ ys _. lists_or f fw xs ys))

    tuple_of : (f : ℕ) (xs : List ℕ) → length xs ≡ slice_index (arities_of a) f → AllByRecursion (λ x. x < a.size) xs → Contains (tuples a.size (slice_index (arities_of a) f)) xs
    tuple_of f xs count low = subst (λ k. Contains (tuples a.size k) xs) count (tuple_in a.size xs low)

    -- what all operations carry, is such a congruence, if it meets the demand
    finished : AllByRecursion CarriesAll (range_with_len 0 (length (arities_of a))) → Meets p → IsLeastMeeting p
    finished carries meets = record {
      congruence = record {
        partition = h.partition;
        size = h.size;
        compatible = λ f xs ys fw count z.
            let lists = tuples a.size (slice_index (arities_of a) f) in
            let here : CarriesAll f = all_at CarriesAll (range_with_len 0 (length (arities_of a))) f carries (in_range 0 (length (arities_of a)) f (omega arith) (omega (arith, fw))) in
            let at_xs : AllByRecursion (Carries f xs) lists = all_at (λ (vs : List ℕ). AllByRecursion (Carries f vs) lists) lists xs here (tuple_of f xs count (zip_left p a.size h.size xs ys z)) in
            all_at (Carries f xs) lists ys at_xs (tuple_of f ys (sym (AllZip-length (SameBlock p) xs ys z) ∙ count) (zip_right p a.size h.size xs ys z)) count z;
      };
      meets = meets;
      least = h.within;
    }

  -- with those two blocks made one, it still lies below
  low_later : (p : Partition) → IsLow p → (r : Asked p) → IsLow (merged p r.x r.y)
  low_later p h r = record {
    partition = merged-IsPartition p h.partition r.x r.y r.left r.right;
    size = length-merged p r.x r.y ∙ h.size;
    within = λ q cq meets. merged-least p h.partition r.x r.y r.left r.right q (h.within q cq meets) (r.forced q cq meets);
  }

  low_start : IsLow (identity_on a.size)
  low_start =
      let n = length-range_with_len 0 a.size in
      record {
        partition = identity-IsPartition a.size;
        size = n;
        within = λ q cq meets x y s. (
            let e = identity-same a.size x y s in
            let l = s.left in
            let size = cq.size in
            subst (SameBlock q x) e (same_itself q x (omega (arith, l, n, size))));
      }

  -- what is low meets the demand, or it asks for more
  module _ (demand : (p : Partition) → IsLow p → Meets p ⊎ Asked p) where
    least_or : (p : Partition) → IsLow p → IsLeastMeeting p ⊎ Asked p
    least_or p h =
        ⊎_elim
        (λ carries. ⊎_elim (λ meets. inl (finished p h carries meets)) (λ r. inr r) (demand p h))
        (λ r. inr r)
        (all_or (CarriesAll p h) (Asked p) (range_with_len 0 (length (arities_of a))) (λ f c. let w = range_low 0 (length (arities_of a)) f c in operation_or p h f (omega (arith, w.1))))

    grow : (n : ℕ) (p : Partition) → IsLow p → total (λ x. x) p < n → (d : Partition) × IsLeastMeeting d
    grow zero p h low = absurd (omega (arith, low))
    grow (suc n) p h low =
        ⊎_elim
        (λ done. (p, done))
        (λ r. let less = merged_total p r.x r.y h.partition r.left r.right r.apart in grow n (merged p r.x r.y) (low_later p h r) (omega (arith, low, less)))
        (least_or p h)

    pub least_meeting : (d : Partition) × IsLeastMeeting d
    least_meeting = grow (suc (total (λ x. x) (identity_on a.size))) (identity_on a.size) low_start (omega arith)

-- ---- the congruence that pairs generate

pub cg_exists : (a : FiniteAlgebra) (pairs : List (ℕ × ℕ)) → IsAlgebra a → AllByRecursion (AreElements a) pairs → HasCg a pairs
cg_exists a pairs alg elements =
    let least = least_meeting a alg (λ p. RelatesAll p pairs) demand in
    record { congruence = least.0; is = record { congruence = least.1.congruence; relates = least.1.meets; least = least.1.least } }
  where
    pair_or : (p : Partition) → IsLow a alg (λ q. RelatesAll q pairs) p → (x : ℕ × ℕ) → Contains pairs x → SameBlock p x.0 x.1 ⊎ Asked a alg (λ q. RelatesAll q pairs) p
    pair_or p h x c =
        let within = all_at (AreElements a) pairs x elements c in
        let n = h.size in
        let l = within.0 in
        let r = within.1 in
        let left : x.0 < length p = omega (arith, l, n) in
        let right : x.1 < length p = omega (arith, r, n) in
        ⊎_elim
        (λ e. inl (record { left = left; right = right; same = e }))
        (λ apart. inr (record { x = x.0; y = x.1; left = left; right = right; apart = apart; forced = λ q cq meets. all_at (λ (pair : ℕ × ℕ). SameBlock q pair.0 pair.1) pairs x meets c }))
        (cases_eq (slice_index p x.0) (slice_index p x.1))

    demand : (p : Partition) → IsLow a alg (λ q. RelatesAll q pairs) p → RelatesAll p pairs ⊎ Asked a alg (λ q. RelatesAll q pairs) p
    demand p h = all_or (λ (pair : ℕ × ℕ). SameBlock p pair.0 pair.1) (Asked a alg (λ q. RelatesAll q pairs) p) pairs (pair_or p h)
