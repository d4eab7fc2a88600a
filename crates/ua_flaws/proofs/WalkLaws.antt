-- The first tuple of numbers that passes a test, as a walk through them place by place finds it.
use Rattle.std.proofs.Common.{◌≡◌, ℕ, suc, ◌+◌, ◌-◌, ◌<◌, ◌≤◌, Bool, true, false, cond, Option, Some, None, List, [], ◌∷◌, ◌++◌, map, take, refl, sym, ap, ◌∙◌, arith, append_assoc}
use Rattle.std.specs.Prelude.{find}
use Rattle.std.specs.List.{range_with_len, flat_map}
use Rattle.std.specs.Option.{option_map, option_or, is_some}
use Rattle.std.proofs.lemmas.List.{append-nil}
use Rattle.std.proofs.lemmas.List.Folds.{find-append}
use Rattle.ua_term.specs.Assignments.{assignments}
use Rattle.ua_flaws.specs.inner.Firsts.{first_behind}

-- ---- a look through a mapped list

find-map : {X Y : Type 0} (q : Y → Bool) (h : X → Y) (xs : List X) → find q (map h xs) ≡ option_map h (find (λ x. q (h x)) xs)
find-map q h [] = refl
find-map q h (x ∷ xs) =
    elim (q (h x)) as (λ b. cond b (Some (h x)) (find q (map h xs)) ≡ option_map h (cond b (Some x) (find (λ y. q (h y)) xs))) [
      | true ↦ refl
      | false ↦ find-map q h xs
    ]

option_map-twice : {X Y Z : Type 0} (g : Y → Z) (h : X → Y) (o : Option X) → option_map g (option_map h o) ≡ option_map (λ x. g (h x)) o
option_map-twice g h None = refl
option_map-twice g h (Some x) = refl

option_map-or : {X Y : Type 0} (g : X → Y) (o p : Option X) → option_map g (option_or o p) ≡ option_or (option_map g o) (option_map g p)
option_map-or g None p = refl
option_map-or g (Some x) p = refl

pub map-same : {X : Type 0} (o : Option X) → option_map (λ (x : X). x) o ≡ o
map-same None = refl
map-same (Some x) = refl

-- ---- place by place

module _ (q : List ℕ → Bool) (n : ℕ) where
  -- no place is left
  pub behind_none : (begin : List ℕ) (b : Bool) → q begin ≡ b → first_behind q n begin 0 ≡ cond b (Some begin) None
  behind_none begin b e =
      let nil : begin ++ [] ≡ begin = append-nil begin in
      ap (λ c. option_map (λ (t : List ℕ). begin ++ t) (cond c (Some []) None)) (ap q nil ∙ e) ∙ given b nil
    where
      given : (c : Bool) → begin ++ [] ≡ begin → option_map (λ (t : List ℕ). begin ++ t) (cond c (Some []) None) ≡ cond c (Some begin) None
      given true nil = ap (λ t. Some t) nil
      given false nil = refl

  -- with numbers from i on, m of them, at the next place
  abbrev pub from : List ℕ → ℕ → ℕ → ℕ → Option (List ℕ)
  from begin k i m = option_map (λ (t : List ℕ). begin ++ t) (find (λ t. q (begin ++ t)) (flat_map (λ x. map (λ tuple. x ∷ tuple) (assignments n k)) (range_with_len i m)))

  pub behind_more : (begin : List ℕ) (k : ℕ) → first_behind q n begin (suc k) ≡ from begin k 0 n
  behind_more begin k = refl

  pub from_none : (begin : List ℕ) (k i : ℕ) → from begin k i 0 ≡ None
  from_none begin k i = refl

  abbrev behind : List ℕ → List ℕ → List ℕ
  behind begin t = begin ++ t

  abbrev behind_next : List ℕ → ℕ → List ℕ → List ℕ
  behind_next begin i t = begin ++ i ∷ t

  joined : (begin : List ℕ) (i : ℕ) → behind_next begin i ≡ behind (begin ++ i ∷ [])
  joined begin i = λ j t. sym (append_assoc begin (i ∷ []) t) j

  pub from_more : (begin : List ℕ) (k i m : ℕ) → from begin k i (suc m) ≡ option_or (first_behind q n (begin ++ i ∷ []) k) (from begin k (i + 1) m)
  from_more begin k i m =
      let here = map (λ (tuple : List ℕ). i ∷ tuple) (assignments n k) in
      let rest = flat_map (λ x. map (λ (tuple : List ℕ). x ∷ tuple) (assignments n k)) (range_with_len (i + 1) m) in
      let r : List ℕ → Bool = λ t. q (begin ++ t) in
      ap (option_map (λ (t : List ℕ). begin ++ t)) (find-append r here rest)
      ∙ option_map-or (λ (t : List ℕ). begin ++ t) (find r here) (find r rest)
      ∙ ap (λ o. option_or o (option_map (λ (t : List ℕ). begin ++ t) (find r rest)))
      (ap (option_map (λ (t : List ℕ). begin ++ t)) (find-map r (λ (tuple : List ℕ). i ∷ tuple) (assignments n k))
      ∙ option_map-twice (λ (t : List ℕ). begin ++ t) (λ (tuple : List ℕ). i ∷ tuple) (find (λ tuple. r (i ∷ tuple)) (assignments n k))
      ∙ ap (λ (h : List ℕ → List ℕ). option_map h (find (λ tuple. q (h tuple)) (assignments n k))) (joined begin i))

  -- all places are filled
  pub leaf : (args : List ℕ) (arity filled : ℕ) → filled ≡ arity → (b : Bool) → q (take arity args) ≡ b → cond b (Some (take arity args)) None ≡ first_behind q n (take filled args) (arity - filled)
  leaf args arity filled e b h =
      let none : arity - filled ≡ 0 = omega (arith, e) in
      sym (ap (λ k. first_behind q n (take filled args) k) none ∙ ap (λ k. first_behind q n (take k args) 0) e ∙ behind_none (take arity args) b h)

  -- the walk goes on at the next place
  pub goes_in : (begin : List ℕ) (arity filled : ℕ) → filled < arity → first_behind q n begin (arity - filled) ≡ from begin (arity - (filled + 1)) 0 (n - 0)
  goes_in begin arity filled h =
      let k : arity - filled ≡ suc (arity - (filled + 1)) = omega (arith, h) in
      let z : n ≡ n - 0 = omega arith in
      ap (first_behind q n begin) k ∙ behind_more begin (arity - (filled + 1)) ∙ ap (from begin (arity - (filled + 1)) 0) z

  one_more : (begin : List ℕ) (k i : ℕ) → i < n → from begin k i (n - i) ≡ option_or (first_behind q n (begin ++ i ∷ []) k) (from begin k (i + 1) (n - (i + 1)))
  one_more begin k i h =
      let m : n - i ≡ suc (n - (i + 1)) = omega (arith, h) in
      ap (from begin k i) m ∙ from_more begin k i (n - (i + 1))

  -- something is found at this number, or nothing
  pub found_here : (whole : Option (List ℕ)) (begin next : List ℕ) (k i : ℕ) (o : Option (List ℕ)) (g : List ℕ → List ℕ) → i < n
      → next ≡ begin ++ i ∷ [] → whole ≡ from begin k i (n - i) → option_map g o ≡ first_behind q n next k → is_some o ≡ true → option_map g o ≡ whole
  found_here whole begin next k i None g h m e here some = cc
  found_here whole begin next k i (Some x) g h m e here some =
      let at : Some (g x) ≡ first_behind q n (begin ++ i ∷ []) k = here ∙ ap (λ b. first_behind q n b k) m in
      sym (e ∙ one_more begin k i h ∙ ap (λ o. option_or o (from begin k (i + 1) (n - (i + 1)))) (sym at))

  pub found_not : (whole : Option (List ℕ)) (begin next : List ℕ) (k i : ℕ) (o : Option (List ℕ)) (g : List ℕ → List ℕ) → i < n
      → next ≡ begin ++ i ∷ [] → whole ≡ from begin k i (n - i) → option_map g o ≡ first_behind q n next k → is_some o ≡ false
      → whole ≡ from begin k (i + 1) (n - (i + 1))
  found_not whole begin next k i (Some x) g h m e here none = cc
  found_not whole begin next k i None g h m e here none =
      let at : None ≡ first_behind q n (begin ++ i ∷ []) k = here ∙ ap (λ b. first_behind q n b k) m in
      e ∙ one_more begin k i h ∙ ap (λ o. option_or o (from begin k (i + 1) (n - (i + 1)))) (sym at)

  pub found_nowhere : (whole : Option (List ℕ)) (begin : List ℕ) (k i : ℕ) → n ≤ i → whole ≡ from begin k i (n - i) → None ≡ whole
  found_nowhere whole begin k i h e =
      let m : n - i ≡ 0 = omega (arith, h) in
      sym (e ∙ ap (from begin k i) m ∙ from_none begin k i)
