-- That there is a least climb to the end, or none: states are reached by levels, until one level reaches no new state.
use Rattle.std.proofs.Common.{◌≡◌, ◌⊎◌, ◌↔◌, inl, inr, ⊎_elim, ℕ, zero, suc, ◌+◌, ◌<◌, ◌≤◌, Bool, true, false, not, List, [], ◌∷◌, ◌++◌, length, map, refl, sym, ap, ◌∙◌, subst, arith, length-append}
use Rattle.std.specs.Prelude.{Contains, slice_index, slice_index_or}
use Rattle.std.specs.List.{AllByRecursion, range_with_len}
use Rattle.std.proofs.lemmas.Bool.{cases_eq, cases_lt, false≢true}
use Rattle.std.proofs.lemmas.List.{length-map}
use Rattle.std.proofs.lemmas.List.FromFn.{length-range_with_len, get_or-map-range_with_len}
use Rattle.std.proofs.lemmas.List.Elements.{Contains-append_left, Contains-append_right}
use Rattle.ua_table.specs.Sequences.{Alternates, BeginsWith, EndsWith, ends_even}
use Rattle.ua_table.proofs.Choices.{in_range}
use Rattle.ua_table.proofs.Firsts.{IsFirstOf, first_of}
use Rattle.ua_table.proofs.Lists.{Contains-head, Contains-tail, Contains-cases, Contains-none, Contains-map, all_push}
use Rattle.ua_climb.specs.Ladders.{LinkLists, IsAllowed, IsClimb, IsClimbed, HasLeastClimb, HasReached}
use Rattle.ua_climb.proofs.ClimbLaws.{Joined, allowed_low, side_after, even_after, ends_allowed, marked_low}

-- ---- a list without one of its members

record HasOthers {X : Type 0} (xs : List X) (x : X) : Type 0 where
  others : List X
  count : suc (length others) ≡ length xs
  all : (y : X) → Contains xs y → (x ≡ y) ⊎ Contains others y

others_of : {X : Type 0} (xs : List X) (x : X) → Contains xs x → HasOthers xs x
others_of [] x c = absurd (Contains-none x c)
others_of (z ∷ zs) x c = ⊎_elim
    (λ same. record { others = zs; count = refl; all = λ y d. ⊎_elim (λ e. inl (sym same ∙ e)) (λ r. inr r) (Contains-cases z y zs d) })
    (λ rest.
    let o = others_of zs x rest in
    record {
      others = z ∷ o.others;
      count = ap suc o.count;
      all = λ y d. ⊎_elim
          (λ e. inr (subst (Contains (z ∷ o.others)) e (Contains-head z o.others)))
          (λ r. ⊎_elim (λ e. inl e) (λ s. inr (Contains-tail z y o.others s)) (o.all y r))
          (Contains-cases z y zs d);
    })
    (Contains-cases z x zs c)

pub both_or : {P Q : Type 0} → P ⊎ (P → ⊥) → Q ⊎ (Q → ⊥) → (P × Q) ⊎ (P × Q → ⊥)
both_or p q = ⊎_elim (λ yes. ⊎_elim (λ also. inl (yes, also)) (λ no. inr (λ h. no h.1)) q) (λ no. inr (λ h. no h.0)) p

-- ---- what is reached by levels

module _ {X : Type 0} (all : List X) (Start : X → Type 0) (Step : X → X → Type 0) (start_or : (x : X) → Start x ⊎ (Start x → ⊥))
    (step_or : (x y : X) → Step x y ⊎ (Step x y → ⊥)) (start_in : (x : X) → Start x → Contains all x) (step_in : (x y : X) → Step x y → Contains all y)
  where
    -- in so many steps
    abbrev Reaches : ℕ → X → Type 0
    Reaches zero y = Start y
    Reaches (suc m) y = (x : X) × Reaches m x × Step x y

    reaches_in : (m : ℕ) (y : X) → Reaches m y → Contains all y
    reaches_in zero y h = start_in y h
    reaches_in (suc m) y h = step_in h.0 y h.2

    reaches_or : (m : ℕ) (y : X) → Reaches m y ⊎ (Reaches m y → ⊥)
    reaches_or zero y = start_or y
    reaches_or (suc m) y = ⊎_elim
        (λ (r : IsFirstOf (λ (x : X). []) (λ x. Reaches m x × Step x y) all). inl (r.item, r.passes.0, r.passes.1))
        (λ none. inr (λ h. none h.0 (reaches_in m h.0 h.1) (h.1, h.2)))
        (first_of (λ (x : X). []) (λ x. Reaches m x × Step x y) (λ x. both_or (reaches_or m x) (step_or x y)) all)

    -- in no more
    abbrev Within : ℕ → X → Type 0
    Within k y = (m : ℕ) × (m ≤ k) × Reaches m y

    within_or : (k : ℕ) (y : X) → Within k y ⊎ (Within k y → ⊥)
    within_or zero y = ⊎_elim
        (λ r. inl (0, omega arith, r))
        (λ none. inr (λ h. none (let low = h.1 in let is : h.0 ≡ 0 = omega (arith, low) in subst (λ m. Reaches m y) is h.2)))
        (reaches_or 0 y)
    within_or (suc k) y = ⊎_elim
        (λ h. inl (let low = h.1 in (h.0, omega (arith, low), h.2)))
        (λ before. ⊎_elim
        (λ r. inl (suc k, omega arith, r))
        (λ here. inr (λ h. ⊎_elim
        (λ less. let low = h.1 in here (let is : h.0 ≡ suc k = omega (arith, less, low) in subst (λ m. Reaches m y) is h.2))
        (λ more. before (h.0, more, h.2))
        (cases_lt k h.0)))
        (reaches_or (suc k) y))
        (within_or k y)

    -- a number of steps in which all is reached that is reached at all
    record IsSaturated : Type 0 where
      bound : ℕ
      few : bound ≤ length all
      reached : (m : ℕ) (y : X) → Reaches m y → Within bound y

    -- the next level reaches nothing new
    saturated_at : (k : ℕ) (left : List X) → k ≤ length all → ((y : X) → Contains all y → Within k y ⊎ Contains left y) → ((y : X) → Contains left y → Reaches (suc k) y → ⊥) → IsSaturated
    saturated_at k left few rest none = record { bound = k; few = few; reached = reached }
      where
        reached : (m : ℕ) (y : X) → Reaches m y → Within k y
        reached zero y h = (0, omega arith, h)
        reached (suc m) y h =
            let before = reached m h.0 h.1 in
            let low = before.1 in
            let here : Reaches (suc before.0) y = (h.0, before.2, h.2) in
            ⊎_elim
            (λ less. (suc before.0, omega (arith, less), here))
            (λ more.
            let last : before.0 ≡ k = omega (arith, low, more) in
            ⊎_elim (λ within. within) (λ new. absurd (none y new (subst (λ n. Reaches (suc n) y) last here))) (rest y (step_in h.0 y h.2)))
            (cases_lt before.0 k)

    saturate : (n k : ℕ) (left : List X) → length left ≤ n → k + length left ≤ length all → ((y : X) → Contains all y → Within k y ⊎ Contains left y) → IsSaturated
    saturate zero k left few short rest = saturated_at k left (omega (arith, short)) rest (λ y c. let w = c.1 in absurd (omega (arith, w, few)))
    saturate (suc n) k left few short rest = ⊎_elim
        (λ (r : IsFirstOf (λ (y : X). []) (λ y. Reaches (suc k) y) left).
        let o = others_of left r.item r.among in
        let count = o.count in
        saturate n (suc k) o.others (omega (arith, few, count)) (omega (arith, short, count)) (λ y c. ⊎_elim
        (λ h. let low = h.1 in inl (h.0, omega (arith, low), h.2))
        (λ old. ⊎_elim (λ same. inl (suc k, omega arith, subst (λ z. Reaches (suc k) z) same r.passes)) (λ other. inr other) (o.all y old))
        (rest y c)))
        (λ none. saturated_at k left (omega (arith, short)) rest none)
        (first_of (λ (y : X). []) (λ y. Reaches (suc k) y) (λ y. reaches_or (suc k) y) left)

    saturation : IsSaturated
    saturation = saturate (length all) 0 all (omega arith) (omega arith) (λ y c. inr c)

-- ---- what can be decided

pub bool_or : (b c : Bool) → (b ≡ c) ⊎ (b ≡ c → ⊥)
bool_or true true = inl refl
bool_or true false = inr (λ e. cc)
bool_or false true = inr (λ e. cc)
bool_or false false = inl refl

-- a test of what is one or the other
pub record HasTest (P : Type 0) : Type 0 where
  pub test : Bool
  pub tells : (test ≡ true) ↔ P

pub test_of : (P : Type 0) → P ⊎ (P → ⊥) → HasTest P
test_of P either = ⊎_elim
    (λ yes. record { test = true; tells = (λ _. yes, λ _. refl) })
    (λ no. record { test = false; tells = (λ t. absurd (false≢true t), λ yes. absurd (no yes)) })
    either

-- ---- a climb with one row more

begins_push : (start j : ℕ) (rows : List ℕ) → BeginsWith (λ i. i ≡ start) rows → BeginsWith (λ i. i ≡ start) (rows ++ j ∷ [])
begins_push start j [] h = absurd h
begins_push start j (i ∷ rest) h = h

ends_push : (j : ℕ) (rows : List ℕ) → EndsWith (λ i. i ≡ j) (rows ++ j ∷ [])
ends_push j [] = refl
ends_push j (i ∷ []) = refl
ends_push j (i ∷ k ∷ rest) = ends_push j (k ∷ rest)

even_push : (j : ℕ) (rows : List ℕ) → ends_even (rows ++ j ∷ []) ≡ not (ends_even rows)
even_push j [] = refl
even_push j (i ∷ rest) = ap not (even_push j rest)

module _ (even odd : LinkLists) where
  joined_push : (side : Bool) (rows : List ℕ) (i j : ℕ) → Alternates (Joined even odd side) (Joined even odd (not side)) rows
      → EndsWith (λ k. k ≡ i) rows → Joined even odd (side_after side rows) i j
      → Alternates (Joined even odd side) (Joined even odd (not side)) (rows ++ j ∷ [])
  joined_push side [] i j h e k = absurd e
  joined_push side (x ∷ []) i j h e k = (subst (λ z. Joined even odd side z j) (sym e) k, tt)
  joined_push true (x ∷ y ∷ rest) i j h e k = (h.0, joined_push false (y ∷ rest) i j h.1 e k)
  joined_push false (x ∷ y ∷ rest) i j h e k = (h.0, joined_push true (y ∷ rest) i j h.1 e k)

side_of : (rows : List ℕ) (i : ℕ) → EndsWith (λ k. k ≡ i) rows → side_after true rows ≡ ends_even rows
side_of [] i e = absurd e
side_of (x ∷ rest) i e = even_after x rest

-- ---- the states of climbs

module _ (allowed : List Bool) (even odd : LinkLists) (start end : ℕ) where
  abbrev Start : ℕ × Bool → Type 0
  Start x = (x.0 ≡ start) × ((x.1 ≡ true) × IsAllowed allowed x.0)

  abbrev Step : ℕ × Bool → ℕ × Bool → Type 0
  Step x y = (y.1 ≡ not x.1) × (IsAllowed allowed y.0 × Joined even odd x.1 x.0 y.0)

  abbrev states : List (ℕ × Bool)
  states = map (λ i. (i, true)) (range_with_len 0 (length allowed)) ++ map (λ i. (i, false)) (range_with_len 0 (length allowed))

  state_in : (side : Bool) (i : ℕ) → i < length allowed → Contains states (i, side)
  state_in true i low =
      Contains-append_left (map (λ k. (k, true)) (range_with_len 0 (length allowed))) (map (λ k. (k, false)) (range_with_len 0 (length allowed))) (i, true)
      (Contains-map (λ k. (k, true)) i (range_with_len 0 (length allowed)) (in_range 0 (length allowed) i (omega arith) (omega (arith, low))))
  state_in false i low =
      Contains-append_right (map (λ k. (k, true)) (range_with_len 0 (length allowed))) (map (λ k. (k, false)) (range_with_len 0 (length allowed))) (i, false)
      (Contains-map (λ k. (k, false)) i (range_with_len 0 (length allowed)) (in_range 0 (length allowed) i (omega arith) (omega (arith, low))))

  joined_or : (side : Bool) (i j : ℕ) → Joined even odd side i j ⊎ (Joined even odd side i j → ⊥)
  joined_or true i j = cases_eq (slice_index even.leads i) (slice_index even.enters j)
  joined_or false i j = cases_eq (slice_index odd.leads i) (slice_index odd.enters j)

  start_or : (x : ℕ × Bool) → Start x ⊎ (Start x → ⊥)
  start_or x = both_or (cases_eq x.0 start) (both_or (bool_or x.1 true) (bool_or (slice_index_or allowed x.0 false) true))

  step_or : (x y : ℕ × Bool) → Step x y ⊎ (Step x y → ⊥)
  step_or x y = both_or (bool_or y.1 (not x.1)) (both_or (bool_or (slice_index_or allowed y.0 false) true) (joined_or x.1 x.0 y.0))

  start_in : (x : ℕ × Bool) → Start x → Contains states x
  start_in x h = state_in x.1 x.0 (allowed_low allowed x.0 h.1.1)

  step_in : (x y : ℕ × Bool) → Step x y → Contains states y
  step_in x y h = state_in y.1 y.0 (allowed_low allowed y.0 h.1.0)

  abbrev Climbs : ℕ → ℕ × Bool → Type 0
  Climbs m x = Reaches states Start Step start_or step_or start_in step_in m x

  abbrev ClimbsWithin : ℕ → ℕ × Bool → Type 0
  ClimbsWithin k x = Within states Start Step start_or step_or start_in step_in k x

  -- ---- a climb reaches its last row

  climb_on : (m i : ℕ) (side : Bool) (rest : List ℕ) (j : ℕ) → Climbs m (i, side) → AllByRecursion (IsAllowed allowed) (i ∷ rest)
      → Alternates (Joined even odd side) (Joined even odd (not side)) (i ∷ rest) → EndsWith (λ k. k ≡ j) (i ∷ rest)
      → Climbs (m + length rest) (j, side_after side (i ∷ rest))
  climb_on m i side [] j r a z e = let none : m ≡ m + 0 = omega arith in subst (λ n. Climbs n (j, side)) none (subst (λ k. Climbs m (k, side)) e r)
  climb_on m i true (k ∷ rest) j r a z e =
      let more : suc m + length rest ≡ m + suc (length rest) = omega arith in
      subst (λ n. Climbs n (j, side_after false (k ∷ rest))) more (climb_on (suc m) k false rest j ((i, true), r, (refl, (a.1.0, z.0))) a.1 z.1 e)
  climb_on m i false (k ∷ rest) j r a z e =
      let more : suc m + length rest ≡ m + suc (length rest) = omega arith in
      subst (λ n. Climbs n (j, side_after true (k ∷ rest))) more (climb_on (suc m) k true rest j ((i, false), r, (refl, (a.1.0, z.0))) a.1 z.1 e)

  climb_reaches : (rows : List ℕ) (j : ℕ) → IsClimb allowed even odd start rows → EndsWith (λ k. k ≡ j) rows → (m : ℕ) × (suc m ≡ length rows) × Climbs m (j, ends_even rows)
  climb_reaches [] j c e = absurd e
  climb_reaches (i ∷ rest) j c e =
      let none : 0 + length rest ≡ length rest = omega arith in
      let there = climb_on 0 i true rest j (c.begins, (refl, c.allows.0)) c.allows c.joined e in
      (length rest, refl, subst (λ s. Climbs (length rest) (j, s)) (even_after i rest) (subst (λ m. Climbs m (j, side_after true (i ∷ rest))) none there))

  -- ---- what is reached has a climb

  record HasClimbTo (m i : ℕ) (side : Bool) : Type 0 where
    rows : List ℕ
    climb : IsClimb allowed even odd start rows
    count : length rows ≡ suc m
    ends : EndsWith (λ k. k ≡ i) rows
    parity : ends_even rows ≡ side

  climb_to : (m i : ℕ) (side : Bool) → Climbs m (i, side) → HasClimbTo m i side
  climb_to zero i side r = record {
    rows = i ∷ [];
    climb = record { begins = r.0; allows = (r.1.1, tt); joined = tt };
    count = refl;
    ends = refl;
    parity = sym r.1.0;
  }
  climb_to (suc m) i side r =
      let x = r.0 in
      let step = r.2 in
      let c = climb_to m x.0 x.1 r.1 in
      let n = length-append c.rows (i ∷ []) in
      let long = c.count in
      let joined = subst (λ s. Joined even odd s x.0 i) (sym c.parity ∙ sym (side_of c.rows x.0 c.ends)) step.1.1 in
      record {
        rows = c.rows ++ i ∷ [];
        climb = record {
          begins = begins_push start i c.rows c.climb.begins;
          allows = all_push (IsAllowed allowed) c.rows i c.climb.allows step.1.0;
          joined = joined_push even odd true c.rows x.0 i c.climb.joined c.ends joined;
        };
        count = omega (arith, n, long);
        ends = ends_push i c.rows;
        parity = even_push i c.rows ∙ ap not c.parity ∙ sym step.0;
      }

  -- ---- the first level that reaches the end

  abbrev EndsAt : ℕ → Type 0
  EndsAt m = Climbs m (end, true) ⊎ Climbs m (end, false)

  ends_or : (m : ℕ) → EndsAt m ⊎ (EndsAt m → ⊥)
  ends_or m = ⊎_elim
      (λ yes. inl (inl yes))
      (λ no. ⊎_elim (λ yes. inl (inr yes)) (λ none. inr (λ h. ⊎_elim no none h)) (reaches_or states Start Step start_or step_or start_in step_in m (end, false)))
      (reaches_or states Start Step start_or step_or start_in step_in m (end, true))

  at_side : (m : ℕ) (side : Bool) → Climbs m (end, side) → EndsAt m
  at_side m true r = inl r
  at_side m false r = inr r

  record IsFirstLevel (n : ℕ) : Type 0 where
    level : ℕ
    within : level < n
    ends : EndsAt level
    first : (k : ℕ) → k < level → EndsAt k → ⊥

  first_level : (n : ℕ) → IsFirstLevel n ⊎ ((m : ℕ) → m < n → EndsAt m → ⊥)
  first_level zero = inr (λ m w h. omega (arith, w))
  first_level (suc n) = ⊎_elim
      (λ f. let w = f.within in inl (record { level = f.level; within = omega (arith, w); ends = f.ends; first = f.first }))
      (λ none. ⊎_elim
      (λ yes. inl (record { level = n; within = omega arith; ends = yes; first = none }))
      (λ no. inr (λ m w h. ⊎_elim (λ low. none m low h) (λ high. let is : m ≡ n = omega (arith, w, high) in no (subst EndsAt is h)) (cases_lt m n)))
      (ends_or n))
      (first_level n)

  saturated : IsSaturated states Start Step start_or step_or start_in step_in
  saturated = saturation states Start Step start_or step_or start_in step_in

  climb_at : (level : ℕ) → EndsAt level → (side : Bool) × Climbs level (end, side)
  climb_at level h = ⊎_elim (λ r. (true, r)) (λ r. (false, r)) h

  states_many : length states ≡ length allowed + length allowed
  states_many =
      length-append (map (λ (i : ℕ). (i, true)) (range_with_len 0 (length allowed))) (map (λ (i : ℕ). (i, false)) (range_with_len 0 (length allowed)))
      ∙ (λ l. length-map {B = ℕ × Bool} (range_with_len 0 (length allowed)) (λ (i : ℕ). (i, true)) l + length-map {B = ℕ × Bool} (range_with_len 0 (length allowed)) (λ (i : ℕ). (i, false)) l)
      ∙ (λ l. length-range_with_len 0 (length allowed) l + length-range_with_len 0 (length allowed) l)

  least_at : IsFirstLevel (suc saturated.bound) → HasLeastClimb allowed even odd start end
  least_at f =
      let at = climb_at f.level f.ends in
      let c = climb_to f.level end at.0 at.1 in
      let count = c.count in
      let low = f.within in
      let few = saturated.few in
      record {
        rows = c.rows;
        is = record {
          climb = c.climb;
          ends = c.ends;
          least = λ others d e.
              let r = climb_reaches others end d e in
              let long = r.1 in
              ⊎_elim
              (λ less. absurd (f.first r.0 less (at_side r.0 (ends_even others) r.2)))
              (λ more. omega (arith, more, long, count))
              (cases_lt r.0 f.level);
        };
        few = omega (arith, low, few, count, states_many);
      }

  -- ---- the rows that are reached

  mark : Bool → ℕ → Bool
  mark side i = (test_of (ClimbsWithin saturated.bound (i, side)) (within_or states Start Step start_or step_or start_in step_in saturated.bound (i, side))).test

  marks : Bool → List Bool
  marks side = map (mark side) (range_with_len 0 (length allowed))

  marks_are : (side : Bool) → length (marks side) ≡ length allowed
  unfolding marks
  marks_are side = length-map (range_with_len 0 (length allowed)) (mark side) ∙ length-range_with_len 0 (length allowed)

  mark_at : (side : Bool) (i : ℕ) → i < length allowed → slice_index_or (marks side) i false ≡ mark side i
  unfolding marks
  mark_at side i low = get_or-map-range_with_len (mark side) 0 (length allowed) i i false low (omega arith)

  mark_tells : (side : Bool) (i : ℕ) → (mark side i ≡ true) ↔ ClimbsWithin saturated.bound (i, side)
  unfolding mark
  mark_tells side i = (test_of (ClimbsWithin saturated.bound (i, side)) (within_or states Start Step start_or step_or start_in step_in saturated.bound (i, side))).tells

  marked : (side : Bool) (i : ℕ) → (slice_index_or (marks side) i false ≡ true) ↔ IsClimbed allowed even odd start side i
  marked side i = (
    λ m.
        let within = marked_low (marks side) i m in
        let many = marks_are side in
        let h = (mark_tells side i).0 (sym (mark_at side i (omega (arith, within, many))) ∙ m) in
        let c = climb_to h.0 i side h.2 in
        record { rows = c.rows; climb = c.climb; parity = c.parity; ends = c.ends },
    λ c.
        let r = climb_reaches c.rows i c.climb c.ends in
        let low = allowed_low allowed i (ends_allowed allowed c.rows i c.climb.allows c.ends) in
        let h = saturated.reached r.0 (i, side) (subst (λ s. Climbs r.0 (i, s)) c.parity r.2) in
        mark_at side i low ∙ (mark_tells side i).1 h,
  )

  none_at : ((m : ℕ) → m < suc saturated.bound → EndsAt m → ⊥) → HasReached allowed even odd start end
  none_at none = record {
    at_even = marks true;
    at_odd = marks false;
    is = record {
      none = λ rows c e.
          let r = climb_reaches rows end c e in
          let h = saturated.reached r.0 (end, ends_even rows) r.2 in
          let low = h.1 in
          none h.0 (omega (arith, low)) (at_side h.0 (ends_even rows) h.2);
      even_count = marks_are true;
      odd_count = marks_are false;
      evens = marked true;
      odds = marked false;
    };
  }

  pub climb_exists : HasLeastClimb allowed even odd start end ⊎ HasReached allowed even odd start end
  climb_exists = ⊎_elim (λ f. inl (least_at f)) (λ none. inr (none_at none)) (first_level (suc saturated.bound))
