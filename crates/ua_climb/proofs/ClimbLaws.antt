-- Climbs and the walks of their states.
use Rattle.std.proofs.Common.{◌≡◌, ℕ, zero, suc, ◌+◌, ◌-◌, ◌<◌, Bool, true, false, not, cond, List, [], ◌∷◌, length, map, take, drop, get_or, refl, sym, ap, ◌∙◌, subst, arith, ⊎_elim, inl, inr}
use Rattle.std.specs.Prelude.{Contains, ◌⊎◌, slice_index_or, slice_index}
use Rattle.std.specs.List.{AllByRecursion}
use Rattle.std.proofs.lemmas.List.{get_or_past, get_or-take, get_or-drop, length-take-le, length-drop}
use Rattle.std.proofs.lemmas.List.Elements.{All-from_recursion}
use Rattle.std.proofs.lemmas.Bool.{cases_lt, false≢true, lt-ltb, le-ltb}
use Rattle.ua_table.specs.Sequences.{Alternates, EndsWith, ends_even}
use Rattle.ua_climb.specs.Networks.{Network, members_of, IsLinked}
use Rattle.ua_climb.specs.inner.Networks.{IsWalk, IsLeastWalk, HasWalk, HasNoWalk}
use Rattle.ua_climb.specs.Ladders.{LinkLists, AreLinks, Joins, IsAllowed, IsClimb, IsLeastClimb, IsClimbed, HasNoClimb}
use Rattle.ua_climb.specs.Sides.{state, row_of}
use Rattle.ua_climb.specs.inner.Sides.{states_of, IsOfLinks}

-- a network of links that are links
pub record IsSetting (allowed : List Bool) (even odd : LinkLists) (g : Network) : Type 0 where
  pub of_links : IsOfLinks allowed even odd g
  pub even_links : AreLinks even.leads even.enters even.classes
  pub odd_links : AreLinks odd.leads odd.enters odd.classes
  pub even_rows : length even.leads ≡ length allowed
  pub odd_rows : length odd.leads ≡ length allowed

-- an allowed row is a row
pub allowed_low : (allowed : List Bool) (i : ℕ) → IsAllowed allowed i → i < length allowed
allowed_low allowed i h = ⊎_elim (λ low. low) (λ past. absurd (false≢true (sym (get_or_past allowed i false past) ∙ h))) (cases_lt i (length allowed))

-- the links from an index of this parity
abbrev pub Joined : LinkLists → LinkLists → Bool → ℕ → ℕ → Type 0
Joined even odd true = Joins even
Joined even odd false = Joins odd

class_low : (xs : List ℕ) (m i : ℕ) → AllByRecursion (λ c. c < m) xs → i < length xs → slice_index xs i < m
class_low xs m i h l = All-from_recursion (λ c. c < m) xs h i 0 l

-- ---- one link

link_up : (allowed : List Bool) (even odd : LinkLists) (g : Network) (side : Bool) (i j : ℕ) → IsSetting allowed even odd g → i < length allowed
    → IsAllowed allowed j → Joined even odd side i j → IsLinked g (state (length allowed) side i) (state (length allowed) (not side) j)
link_up allowed even odd g true i j h l a e =
    let n = length allowed in
    let low = class_low even.leads even.classes i h.even_links.leads_below (let r = h.even_rows in omega arith) in
    subst (λ c. Contains (members_of g c) (n + j)) (sym (h.of_links.even_leads i l))
    ((h.of_links.even_groups (slice_index even.leads i) (n + j) low).1 (record { row = j; low = allowed_low allowed j a; is = refl; allows = a; class = sym e }))
link_up allowed even odd g false i j h l a e =
    let n = length allowed in
    let low = class_low odd.leads odd.classes i h.odd_links.leads_below (let r = h.odd_rows in omega arith) in
    let zero_more : j ≡ 0 + j = omega arith in
    subst (λ c. Contains (members_of g c) j) (sym (h.of_links.odd_leads i l))
    ((h.of_links.odd_groups (slice_index odd.leads i) j low).1 (record { row = j; low = allowed_low allowed j a; is = zero_more; allows = a; class = sym e }))

-- the row that a link leads to
record IsNext (allowed : List Bool) (even odd : LinkLists) (side : Bool) (i t : ℕ) : Type 0 where
  row : ℕ
  is : t ≡ state (length allowed) (not side) row
  allows : IsAllowed allowed row
  joined : Joined even odd side i row

link_down : (allowed : List Bool) (even odd : LinkLists) (g : Network) (side : Bool) (i t : ℕ) → IsSetting allowed even odd g → i < length allowed → IsLinked g (state (length allowed) side i) t → IsNext allowed even odd side i t
link_down allowed even odd g true i t h l k =
    let low = class_low even.leads even.classes i h.even_links.leads_below (let r = h.even_rows in omega arith) in
    let e = (h.of_links.even_groups (slice_index even.leads i) t low).0 (subst (λ c. Contains (members_of g c) t) (h.of_links.even_leads i l) k) in
    record { row = e.row; is = e.is; allows = e.allows; joined = sym e.class }
link_down allowed even odd g false i t h l k =
    let low = class_low odd.leads odd.classes i h.odd_links.leads_below (let r = h.odd_rows in omega arith) in
    let e = (h.of_links.odd_groups (slice_index odd.leads i) t low).0 (subst (λ c. Contains (members_of g c) t) (h.of_links.odd_leads i l) k) in
    let none_more : 0 + e.row ≡ e.row = omega arith in
    record { row = e.row; is = e.is ∙ none_more; allows = e.allows; joined = sym e.class }

-- ---- lists of them

states_up : (allowed : List Bool) (even odd : LinkLists) (g : Network) (side : Bool) (i : ℕ) (rest : List ℕ) → IsSetting allowed even odd g
    → AllByRecursion (IsAllowed allowed) (i ∷ rest) → Alternates (Joined even odd side) (Joined even odd (not side)) (i ∷ rest)
    → Alternates (IsLinked g) (IsLinked g) (states_of (length allowed) side (i ∷ rest))
states_up allowed even odd g side i [] h a k = tt
states_up allowed even odd g true i (j ∷ rest) h a k = (link_up allowed even odd g true i j h (allowed_low allowed i a.0) a.1.0 k.0, states_up allowed even odd g false j rest h a.1 k.1)
states_up allowed even odd g false i (j ∷ rest) h a k = (link_up allowed even odd g false i j h (allowed_low allowed i a.0) a.1.0 k.0, states_up allowed even odd g true j rest h a.1 k.1)

record AreNext (allowed : List Bool) (even odd : LinkLists) (side : Bool) (i : ℕ) (states : List ℕ) : Type 0 where
  rows : List ℕ
  are : states ≡ states_of (length allowed) (not side) rows
  allows : AllByRecursion (IsAllowed allowed) rows
  joined : Alternates (Joined even odd side) (Joined even odd (not side)) (i ∷ rows)

more_next : (allowed : List Bool) (even odd : LinkLists) (side : Bool) (i t : ℕ) (states : List ℕ) (one : IsNext allowed even odd side i t) → AreNext allowed even odd (not side) one.row states → AreNext allowed even odd side i (t ∷ states)
more_next allowed even odd true i t states one rest = record {
  rows = one.row ∷ rest.rows;
  are = ap (λ s. s ∷ states) one.is ∙ ap (λ (ss : List ℕ). state (length allowed) false one.row ∷ ss) rest.are;
  allows = (one.allows, rest.allows);
  joined = (one.joined, rest.joined);
}
more_next allowed even odd false i t states one rest = record {
  rows = one.row ∷ rest.rows;
  are = ap (λ s. s ∷ states) one.is ∙ ap (λ (ss : List ℕ). state (length allowed) true one.row ∷ ss) rest.are;
  allows = (one.allows, rest.allows);
  joined = (one.joined, rest.joined);
}

states_down : (allowed : List Bool) (even odd : LinkLists) (g : Network) (side : Bool) (i : ℕ) (states : List ℕ) → IsSetting allowed even odd g
    → i < length allowed → Alternates (IsLinked g) (IsLinked g) (state (length allowed) side i ∷ states) → AreNext allowed even odd side i states
states_down allowed even odd g side i [] h l k = record { rows = []; are = refl; allows = tt; joined = tt }
states_down allowed even odd g side i (t ∷ states) h l k =
    let one = link_down allowed even odd g side i t h l k.0 in
    more_next allowed even odd side i t states one (states_down allowed even odd g (not side) one.row states h (allowed_low allowed one.row one.allows) (subst (λ s. Alternates (IsLinked g) (IsLinked g) (s ∷ states)) one.is k.1))

-- the rows of the states are the rows
row_back : (n : ℕ) (side : Bool) (i : ℕ) → i < n → row_of n (state n side i) ≡ i
row_back n true i l = ap (λ b. cond b i (i - n)) (lt-ltb i n l)
row_back n false i l =
    let back : (n + i) - n ≡ i = omega arith in
    ap (λ b. cond b (n + i) ((n + i) - n)) (le-ltb (n + i) n (omega arith)) ∙ back

pub rows_back : (allowed : List Bool) (side : Bool) (rows : List ℕ) → AllByRecursion (IsAllowed allowed) rows → map (λ s. row_of (length allowed) s) (states_of (length allowed) side rows) ≡ rows
rows_back allowed side [] a = refl
rows_back allowed side (i ∷ rest) a =
    ap (λ (r : ℕ). r ∷ map (λ s. row_of (length allowed) s) (states_of (length allowed) (not side) rest))
    (row_back (length allowed) side i (allowed_low allowed i a.0))
    ∙ ap (λ (rs : List ℕ). i ∷ rs) (rows_back allowed (not side) rest a.1)

length_states : (n : ℕ) (side : Bool) (rows : List ℕ) → length (states_of n side rows) ≡ length rows
length_states n side [] = refl
length_states n side (i ∷ rest) = ap suc (length_states n (not side) rest)

-- ---- the last of them

-- the parity of the last index, where the first is so
abbrev pub side_after : Bool → List ℕ → Bool
side_after side [] = side
side_after side (i ∷ []) = side
side_after side (i ∷ j ∷ rest) = side_after (not side) (j ∷ rest)

not_twice : (b : Bool) → b ≡ not (not b)
not_twice true = refl
not_twice false = refl

mutual
  pub even_after : (i : ℕ) (rest : List ℕ) → side_after true (i ∷ rest) ≡ ends_even (i ∷ rest)
  even_after i [] = refl
  even_after i (j ∷ rest) = odd_after j rest

  odd_after : (i : ℕ) (rest : List ℕ) → side_after false (i ∷ rest) ≡ not (ends_even (i ∷ rest))
  odd_after i [] = refl
  odd_after i (j ∷ rest) = even_after j rest ∙ not_twice (ends_even (j ∷ rest))

ends_up : (n : ℕ) (side : Bool) (rows : List ℕ) (j : ℕ) → EndsWith (λ i. i ≡ j) rows → EndsWith (λ t. t ≡ state n (side_after side rows) j) (states_of n side rows)
ends_up n side [] j h = absurd h
ends_up n side (i ∷ []) j h = ap (state n side) h
ends_up n side (i ∷ k ∷ rest) j h = ends_up n (not side) (k ∷ rest) j h

ends_down : (n : ℕ) (side : Bool) (rows : List ℕ) (t : ℕ) → EndsWith (λ s. s ≡ t) (states_of n side rows) → (j : ℕ) × EndsWith (λ i. i ≡ j) rows × (state n (side_after side rows) j ≡ t)
ends_down n side [] t h = absurd h
ends_down n side (i ∷ []) t h = (i, refl, h)
ends_down n side (i ∷ k ∷ rest) t h = ends_down n (not side) (k ∷ rest) t h

pub ends_allowed : (allowed : List Bool) (rows : List ℕ) (j : ℕ) → AllByRecursion (IsAllowed allowed) rows → EndsWith (λ i. i ≡ j) rows → IsAllowed allowed j
ends_allowed allowed [] j a h = absurd h
ends_allowed allowed (i ∷ []) j a h = subst (IsAllowed allowed) h a.0
ends_allowed allowed (i ∷ k ∷ rest) j a h = ends_allowed allowed (k ∷ rest) j a.1 h

-- ---- walks

-- the walk of a climb
pub walk_up : (allowed : List Bool) (even odd : LinkLists) (g : Network) (start j : ℕ) (rows : List ℕ) → IsSetting allowed even odd g
    → IsClimb allowed even odd start rows → EndsWith (λ i. i ≡ j) rows
    → IsWalk g start (state (length allowed) (ends_even rows) j) (states_of (length allowed) true rows)
walk_up allowed even odd g start j [] h c e = absurd e
walk_up allowed even odd g start j (i ∷ rest) h c e = record {
  begins = c.begins;
  linked = states_up allowed even odd g true i rest h c.allows c.joined;
  ends = subst (λ b. EndsWith (λ t. t ≡ state (length allowed) b j) (states_of (length allowed) true (i ∷ rest))) (even_after i rest) (ends_up (length allowed) true (i ∷ rest) j e);
}

-- the climb of a walk
pub record IsClimbOf (allowed : List Bool) (even odd : LinkLists) (start t : ℕ) (states : List ℕ) : Type 0 where
  pub rows : List ℕ
  pub are : states ≡ states_of (length allowed) true rows
  pub climb : IsClimb allowed even odd start rows
  pub end : ℕ
  pub ends : EndsWith (λ i. i ≡ end) rows
  pub is : state (length allowed) (ends_even rows) end ≡ t
  pub low : end < length allowed

pub walk_down : (allowed : List Bool) (even odd : LinkLists) (g : Network) (start t : ℕ) (states : List ℕ) → IsSetting allowed even odd g → IsAllowed allowed start → IsWalk g start t states → IsClimbOf allowed even odd start t states
walk_down allowed even odd g start t [] h a w = absurd w.begins
walk_down allowed even odd g start t (s ∷ rest) h a w =
    let next = states_down allowed even odd g true start rest h (allowed_low allowed start a) (subst (λ x. Alternates (IsLinked g) (IsLinked g) (x ∷ rest)) w.begins w.linked) in
    let are : (s ∷ rest) ≡ states_of (length allowed) true (start ∷ next.rows) = ap (λ x. x ∷ rest) w.begins ∙ ap (λ (ss : List ℕ). start ∷ ss) next.are in
    let last = ends_down (length allowed) true (start ∷ next.rows) t (subst (λ (ss : List ℕ). EndsWith (λ x. x ≡ t) ss) are w.ends) in
    record {
      rows = start ∷ next.rows;
      are = are;
      climb = record { begins = refl; allows = (a, next.allows); joined = next.joined };
      end = last.0;
      ends = last.1;
      is = ap (λ b. state (length allowed) b last.0) (sym (even_after start next.rows)) ∙ last.2;
      low = allowed_low allowed last.0 (ends_allowed allowed (start ∷ next.rows) last.0 (a, next.allows) last.1);
    }

-- ---- the answers

-- the states of the end
end_state : (n : ℕ) (side : Bool) (end : ℕ) → Contains (end ∷ (n + end) ∷ []) (state n side end)
end_state n true end = (0, omega arith, refl)
end_state n false end = (1, omega arith, refl)

which_end : (n end t : ℕ) → Contains (end ∷ (n + end) ∷ []) t → (t ≡ end) ⊎ (t ≡ n + end)
which_end n end t c = pick c.0 c.1 c.2
  where
    pick : (k : ℕ) → k < 2 → get_or (end ∷ (n + end) ∷ []) k t ≡ t → (t ≡ end) ⊎ (t ≡ n + end)
    pick zero l e = inl (sym e)
    pick (suc zero) l e = inr (sym e)
    pick (suc (suc k)) l e = absurd (omega arith)

-- a row with an end's state is the end
same_row : (n : ℕ) (side : Bool) (j end : ℕ) → j < n → end < n → Contains (end ∷ (n + end) ∷ []) (state n side j) → j ≡ end
same_row n true j end l m c = ⊎_elim (λ e. e) (λ e. absurd (omega arith)) (which_end n end j c)
same_row n false j end l m c = ⊎_elim (λ e. absurd (omega arith)) (λ e. omega arith) (which_end n end (n + j) c)

pub least_from_walk : (allowed : List Bool) (even odd : LinkLists) (g : Network) (start end : ℕ) (states rows : List ℕ) → IsSetting allowed even odd g
    → IsAllowed allowed start → end < length allowed → IsLeastWalk g start (end ∷ (length allowed + end) ∷ []) states
    → rows ≡ map (λ s. row_of (length allowed) s) states → IsLeastClimb allowed even odd start end rows
least_from_walk allowed even odd g start end states rows h a low w e =
    let n = length allowed in
    let c = walk_down allowed even odd g start w.end states h a w.walk in
    let back : rows ≡ c.rows = e ∙ ap (map (λ s. row_of n s)) c.are ∙ rows_back allowed true c.rows c.climb.allows in
    let same : c.end ≡ end = same_row n (ends_even c.rows) c.end end c.low low (subst (Contains (end ∷ (n + end) ∷ [])) (sym c.is) w.wanted) in
    let long : length states ≡ length rows = ap length c.are ∙ length_states n true c.rows ∙ ap length (sym back) in
    record {
      climb = subst (IsClimb allowed even odd start) (sym back) c.climb;
      ends = subst (λ (rs : List ℕ). EndsWith (λ i. i ≡ end) rs) (sym back) (subst (λ j. EndsWith (λ i. i ≡ j) c.rows) same c.ends);
      least = λ others d f.
          let v = walk_up allowed even odd g start end others h d f in
          let few = w.least (state n (ends_even others) end) (states_of n true others) (end_state n (ends_even others) end) v in
          let count = length_states n true others in
          omega arith;
    }

-- a row that is reached at an index of this parity
climbed_from_reached : (allowed : List Bool) (even odd : LinkLists) (g : Network) (start : ℕ) (side : Bool) (i : ℕ) → IsSetting allowed even odd g
    → IsAllowed allowed start → i < length allowed → HasWalk g start (state (length allowed) side i) → IsClimbed allowed even odd start side i
climbed_from_reached allowed even odd g start side i h a low r =
    let n = length allowed in
    let c = walk_down allowed even odd g start (state n side i) r.states h a r.walk in
    let both = same_state n (ends_even c.rows) side c.end i c.low low c.is in
    record { rows = c.rows; climb = c.climb; parity = both.0; ends = subst (λ j. EndsWith (λ k. k ≡ j) c.rows) both.1 c.ends }
  where
    same_state : (n : ℕ) (b side : Bool) (j i : ℕ) → j < n → i < n → state n b j ≡ state n side i → (b ≡ side) × (j ≡ i)
    same_state n true true j i l m e = (refl, e)
    same_state n true false j i l m e = absurd (omega arith)
    same_state n false true j i l m e = absurd (omega arith)
    same_state n false false j i l m e = (refl, omega arith)

reached_from_climbed : (allowed : List Bool) (even odd : LinkLists) (g : Network) (start : ℕ) (side : Bool) (i : ℕ) → IsSetting allowed even odd g → IsClimbed allowed even odd start side i → HasWalk g start (state (length allowed) side i)
reached_from_climbed allowed even odd g start side i h c =
    record { states = states_of (length allowed) true c.rows; walk = subst (λ b. IsWalk g start (state (length allowed) b i) (states_of (length allowed) true c.rows)) c.parity (walk_up allowed even odd g start i c.rows h c.climb c.ends) }

climbed_low : (allowed : List Bool) (even odd : LinkLists) (start : ℕ) (side : Bool) (i : ℕ) → IsClimbed allowed even odd start side i → i < length allowed
climbed_low allowed even odd start side i c = allowed_low allowed i (ends_allowed allowed c.rows i c.climb.allows c.ends)

pub marked_low : (marks : List Bool) (i : ℕ) → slice_index_or marks i false ≡ true → i < length marks
marked_low marks i h = ⊎_elim (λ low. low) (λ past. absurd (false≢true (sym (get_or_past marks i false past) ∙ h))) (cases_lt i (length marks))

pub none_from_walks : (allowed : List Bool) (even odd : LinkLists) (g : Network) (start end : ℕ) (marks at_even at_odd : List Bool)
    → IsSetting allowed even odd g → IsAllowed allowed start → HasNoWalk g start (end ∷ (length allowed + end) ∷ []) marks
    → at_even ≡ take (length allowed) marks → at_odd ≡ drop (length allowed) marks → HasNoClimb allowed even odd start end at_even at_odd
none_from_walks allowed even odd g start end marks at_even at_odd h a w ee eo =
    let n = length allowed in
    let long : length marks ≡ n + n = w.count ∙ h.of_links.states in
    let few : length at_even ≡ n = ap length ee ∙ length-take-le n marks (omega arith) in
    let rest : length at_odd ≡ n = ap length eo ∙ length-drop n marks ∙ (omega arith) in
    let even_at : (i : ℕ) → i < n → slice_index_or at_even i false ≡ slice_index_or marks i false = λ i l. ap (λ (ms : List Bool). slice_index_or ms i false) ee ∙ get_or-take n marks i false l in
    let odd_at : (i : ℕ) → slice_index_or at_odd i false ≡ slice_index_or marks (n + i) false = λ i. ap (λ (ms : List Bool). slice_index_or ms i false) eo ∙ get_or-drop n marks i false in
    record {
      none = λ rows c e. w.none (state n (ends_even rows) end) (end_state n (ends_even rows) end) (record { states = states_of n true rows; walk = walk_up allowed even odd g start end rows h c e });
      even_count = few;
      odd_count = rest;
      evens = λ i. (
        λ m. let low : i < n = (let l = marked_low at_even i m in omega arith) in climbed_from_reached allowed even odd g start true i h a low ((w.reached i).0 (sym (even_at i low) ∙ m)),
        λ c. even_at i (climbed_low allowed even odd start true i c) ∙ (w.reached i).1 (reached_from_climbed allowed even odd g start true i h c),
      );
      odds = λ i. (
        λ m. let low : i < n = (let l = marked_low at_odd i m in omega arith) in climbed_from_reached allowed even odd g start false i h a low ((w.reached (n + i)).0 (sym (odd_at i) ∙ m)),
        λ c. odd_at i ∙ (w.reached (n + i)).1 (reached_from_climbed allowed even odd g start false i h c),
      );
    }
