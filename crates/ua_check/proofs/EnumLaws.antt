-- The first refusal of the items of a list, each with its number.
use Rattle.std.proofs.Common.{◌≡◌, ℕ, suc, ◌+◌, ◌<◌, ◌≤◌, Option, Some, None, List, ◌∷◌, length, map, drop, get_or, sym, ap, ◌∙◌, arith}
use Rattle.std.specs.List.{enumerate_from}
use Rattle.std.proofs.Math.Seq.{drop-cons}
use Rattle.std.proofs.lemmas.List.{drop_all}
use Rattle.ua_table.specs.Refusals.{first_refusal}

module _ {X E : Type 0} (f : ℕ × X → Option E) where
  -- what is left from item i on
  abbrev pub left : List X → ℕ → Option E
  left xs i = first_refusal (map f (enumerate_from i (drop i xs)))

  read : (xs : List X) (i : ℕ) (x d : X) → i < length xs → x ≡ get_or xs i d → left xs i ≡ first_refusal (f (i, x) ∷ map f (enumerate_from (i + 1) (drop (i + 1) xs)))
  read xs i x d h at =
      let one : suc i ≡ i + 1 = omega arith in
      ap (λ (ys : List X). first_refusal (map f (enumerate_from i ys))) (drop-cons xs i d h ∙ ap (λ y. y ∷ drop (suc i) xs) (sym at) ∙ ap (λ k. x ∷ drop k xs) one)

  pub passed_by : (xs : List X) (i : ℕ) (x d : X) → i < length xs → x ≡ get_or xs i d → f (i, x) ≡ None → left xs i ≡ left xs (i + 1)
  passed_by xs i x d h at none = read xs i x d h at ∙ ap (λ o. first_refusal (o ∷ map f (enumerate_from (i + 1) (drop (i + 1) xs)))) none

  pub refused_at : (xs : List X) (i : ℕ) (x d : X) (e : E) → i < length xs → x ≡ get_or xs i d → f (i, x) ≡ Some e → left xs i ≡ Some e
  refused_at xs i x d e h at some = read xs i x d h at ∙ ap (λ o. first_refusal (o ∷ map f (enumerate_from (i + 1) (drop (i + 1) xs)))) some

  pub none_left : (xs : List X) (i : ℕ) → length xs ≤ i → left xs i ≡ None
  none_left xs i h = ap (λ (ys : List X). first_refusal (map f (enumerate_from i ys))) (drop_all i xs h)
