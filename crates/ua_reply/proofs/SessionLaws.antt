-- The places of names in a session.
use Rattle.std.proofs.Common.{◌≡◌, ℕ, zero, suc, ◌<◌, ◌≤◌, Bool, true, false, cond, List, [], ◌∷◌, ◌++◌, length, take, drop, true≢false, Some, None, refl, sym, ap, ◌∙◌, subst, arith}
use Rattle.std.specs.Prelude.{Option, nat_eq, find, slice_get}
use Rattle.std.specs.Option.{option_or}
use Rattle.std.specs.Cmp.Lexicographic.{pointwise}
use Rattle.std.proofs.lemmas.Option.{slice_get-get_or}
use Rattle.std.proofs.lemmas.List.{length-append, take-append-drop, take-append-le, take-take}
use Rattle.std.proofs.Math.Seq.{take-append_seam}
use Rattle.std.proofs.lemmas.List.Folds.{find-append}
use Rattle.std.proofs.lemmas.Bool.Decides.{Decides-eqb}
use Rattle.std.proofs.lemmas.Slice.Eq.{slice_eq-Decides}
use Rattle.ua_table.proofs.Lists.{slice_get-append_left, slice_get-push}
use Rattle.ua_text.specs.declared.named.Block.{Block}
use Rattle.ua_reply.specs.Sessions.{lookup, IsPlace, ArePlaces}

-- ---- one more name

same_name : (a b : List ℕ) → pointwise nat_eq a b ≡ true → a ≡ b
same_name a b = (slice_eq-Decides Decides-eqb a b (pointwise nat_eq a b) refl).0

abbrev has_name : List ℕ → Block → Bool
has_name name k = pointwise nat_eq k.algebra.name name

found_more : (s : List Block) (k : Block) (name : List ℕ) → lookup (s ++ k ∷ []) name ≡ option_or (lookup s name) (cond (has_name name k) (Some k) None)
found_more s k name = find-append (has_name name) s (k ∷ [])

still_found : (s : List Block) (k j : Block) (name : List ℕ) → lookup s name ≡ Some j → lookup (s ++ k ∷ []) name ≡ Some j
still_found s k j name e = found_more s k name ∙ ap (λ o. option_or o (cond (has_name name k) (Some k) None)) e

found_last : (s : List Block) (k : Block) (name : List ℕ) (b : Bool) → lookup s name ≡ None → has_name name k ≡ b → lookup (s ++ k ∷ []) name ≡ cond b (Some k) None
found_last s k name b e f = found_more s k name ∙ (λ i. option_or (e i) (cond (f i) (Some k) None))

-- a place stays, and so does the lack of one where what joins has another name
kept : (s : List Block) (k : Block) (name : List ℕ) (place : Option ℕ) → IsPlace s name place → (place ≡ None → has_name name k ≡ false) → IsPlace (s ++ k ∷ []) name place
kept s k name None h other = found_last s k name false h (other refl)
kept s k name (Some i) h other =
    let there = slice_get-get_or s i k h.0 in
    let len = length-append s (k ∷ []) in (
      (let l = h.0 in omega (arith, l, len)),
      slice_get-append_left s (k ∷ []) i h.0 ∙ there ∙ sym (still_found s k _ name (sym h.1 ∙ there)),
      ap (λ (t : List Block). lookup t name) (take-append-le i s (k ∷ []) (let l = h.0 in omega (arith, l))) ∙ h.2,
    )

-- what has a new name has the last place
pub places_more : (s : List Block) (k : Block) (old new : List ℕ → Option ℕ) → ArePlaces s old → old k.algebra.name ≡ None
    → ((name : List ℕ) → new name ≡ cond (has_name name k) (Some (length s)) (old name)) → ArePlaces (s ++ k ∷ []) new
places_more s k old new h none update name = at (has_name name k) refl
  where
    at : (b : Bool) → has_name name k ≡ b → IsPlace (s ++ k ∷ []) name (new name)
    at true e =
        let same = same_name k.algebra.name name e in
        let absent : lookup s name ≡ None = subst (λ (t : List ℕ). lookup s t ≡ None) same (subst (IsPlace s k.algebra.name) none (h k.algebra.name)) in
        let len = length-append s (k ∷ []) in
        subst (IsPlace (s ++ k ∷ []) name) (sym (update name ∙ ap (λ b. cond b (Some (length s)) (old name)) e)) (
          omega (arith, len),
          slice_get-push s k ∙ sym (found_last s k name true absent e),
          ap (λ (t : List Block). lookup t name) (take-append_seam s (k ∷ [])) ∙ absent,
        )
    at false e = subst (IsPlace (s ++ k ∷ []) name) (sym (update name ∙ ap (λ b. cond b (Some (length s)) (old name)) e)) (kept s k name (old name) (h name) (λ _. e))

-- what has a known name changes no place
pub places_stay : (s : List Block) (k : Block) (i : ℕ) (old : List ℕ → Option ℕ) → ArePlaces s old → old k.algebra.name ≡ Some i → ArePlaces (s ++ k ∷ []) old
places_stay s k i old h known name = kept s k name (old name) (h name) (λ none. at none (has_name name k) refl)
  where
    at : old name ≡ None → (b : Bool) → has_name name k ≡ b → b ≡ false
    at none false e = refl
    at none true e = let same = ap old (same_name k.algebra.name name e) in cc

-- ---- the first blocks alone

none_first : (a b : Option Block) → option_or a b ≡ None → a ≡ None
none_first None b e = refl
none_first (Some k) b e = cc

-- a name that no block has is none of the first blocks
pub lookup_absent : (s : List Block) (name : List ℕ) (c : ℕ) → lookup s name ≡ None → lookup (take c s) name ≡ None
lookup_absent s name c none =
    let whole : lookup s name ≡ option_or (lookup (take c s) name) (lookup (drop c s) name) =
    ap (λ (t : List Block). lookup t name) (sym (take-append-drop c s)) ∙ find-append (has_name name) (take c s) (drop c s) in
    none_first (lookup (take c s) name) (lookup (drop c s) name) (sym whole ∙ none)

-- nor is one whose place is behind them
pub lookup_behind : (s : List Block) (name : List ℕ) (i c : ℕ) → IsPlace s name (Some i) → c ≤ i → lookup (take c s) name ≡ None
lookup_behind s name i c h le = ap (λ (t : List Block). lookup t name) (sym (take-take c i s le)) ∙ lookup_absent (take i s) name c h.2

found_passes : {X : Type 0} (p : X → Bool) (xs : List X) (y : X) → find p xs ≡ Some y → p y ≡ true
found_passes p [] y e = cc
found_passes {X} p (z ∷ zs) y e = at (p z) refl e (found_passes p zs y)
  where
    at : (b : Bool) → p z ≡ b → cond b (Some z) (find p zs) ≡ Some y → (find p zs ≡ Some y → p y ≡ true) → p y ≡ true
    at true is e rest = let same : z ≡ y = cc in subst (λ (x : X). p x ≡ true) same is
    at false is e rest = rest e

-- what is found first at a place is found among all up to it
found_among : {X : Type 0} (p : X → Bool) (xs : List X) (i c : ℕ) → i < c → slice_get xs i ≡ find p xs → find p (take i xs) ≡ None → find p (take c xs) ≡ find p xs
found_among p xs i zero lt there e = absurd (omega (arith, lt))
found_among p [] i (suc c) lt there e = refl
found_among p (z ∷ zs) zero (suc c) lt there e = at (p z) refl there
  where
    at : (b : Bool) → p z ≡ b → Some z ≡ cond b (Some z) (find p zs) → cond b (Some z) (find p (take c zs)) ≡ cond b (Some z) (find p zs)
    at true is there = refl
    at false is there = absurd (true≢false (sym (found_passes p zs z (sym there)) ∙ is))
found_among p (z ∷ zs) (suc i) (suc c) lt there e = at (p z) there e (found_among p zs i c (omega (arith, lt)))
  where
    at : (b : Bool) → slice_get zs i ≡ cond b (Some z) (find p zs) → cond b (Some z) (find p (take i zs)) ≡ None → (slice_get zs i ≡ find p zs → find p (take i zs) ≡ None → find p (take c zs) ≡ find p zs)
        → cond b (Some z) (find p (take c zs)) ≡ cond b (Some z) (find p zs)
    at true there e rest = refl
    at false there e rest = rest there e

-- a name whose place is among them is found there
pub lookup_among : (s : List Block) (name : List ℕ) (i c : ℕ) → IsPlace s name (Some i) → i < c → lookup (take c s) name ≡ lookup s name
lookup_among s name i c h lt = found_among (has_name name) s i c lt h.1 h.2
