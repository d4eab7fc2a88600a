-- The vectors of patterns, one after another.
use Rattle.std.proofs.Common.{◌≡◌, ℕ, zero, suc, ◌+◌, ◌^◌, ◌<◌, ◌≤◌, List, [], ◌∷◌, ◌++◌, length, map, take, get_or, refl, sym, ap, ◌∙◌, subst, arith}
use Rattle.std.specs.Prelude.{slice_index}
use Rattle.std.specs.List.{AllByRecursion}
use Rattle.std.proofs.lemmas.List.{length-map, get_or-map}
use Rattle.std.proofs.lemmas.List.Elements.{All-from_recursion}
use Rattle.ua_term.specs.Assignments.{projection}
use Rattle.ua_identity.specs.Identities.{VariablePattern}
use Rattle.ua_identity.specs.Patterns.{all_fillings, place_vector}
use Rattle.ua_identity.proofs.FillingLaws.{width_more, one_narrow, place_more}

module _ {X : Type 0} (f : X → VariablePattern) where
  taken : (xs : List X) (k : ℕ) → map f (take k xs) ≡ take k (map f xs)
  taken xs zero = refl
  taken [] (suc k) = refl
  taken (x ∷ xs) (suc k) = ap (λ (ps : List VariablePattern). f x ∷ ps) (taken xs k)

  module _ (n : ℕ) (xs : List X) (k : ℕ) (x : X) (l : k < length xs) (e : x ≡ get_or xs k x) where
    low : k < length (map f xs)
    low = let same = length-map xs f in omega (arith, l, same)

    stands : f x ≡ get_or (map f xs) k (f x)
    stands = ap f e ∙ sym (get_or-map f xs k x (f x) l)

    -- as many coordinates more as there are assignments
    pub row_wider : length (all_fillings n (map f (take (k + 1) xs))) ≡ length (all_fillings n (map f (take k xs))) + n ^ (f x).variables
    row_wider =
        ap (λ ps. length (all_fillings n ps)) (taken xs (k + 1)) ∙ width_more n (map f xs) k (f x) low stands
        ∙ ap (λ ps. length (all_fillings n ps) + n ^ (f x).variables) (sym (taken xs k))

    -- those of one pattern are no more than all
    pub row_narrow : n ^ (f x).variables ≤ length (all_fillings n (map f xs))
    row_narrow = one_narrow n (map f xs) k (f x) low stands

    -- what holds of each pattern holds of this one
    pub row_at : (P : VariablePattern → Type 0) → AllByRecursion P (map f xs) → P (f x)
    row_at P h = subst P (sym stands) (All-from_recursion P (map f xs) h k (f x) low)

    -- what stands at a place under one pattern more
    pub row_more : (j : ℕ) → AllByRecursion (λ (p : VariablePattern). j < length p.places) (map f xs)
        → place_vector (all_fillings n (map f (take (k + 1) xs))) j
        ≡ place_vector (all_fillings n (map f (take k xs))) j ++ projection n (f x).variables (slice_index (f x).places j)
    row_more j h =
        ap (λ ps. place_vector (all_fillings n ps) j) (taken xs (k + 1)) ∙ place_more n (map f xs) k j (f x) low stands (row_at (λ p. j < length p.places) h)
        ∙ ap (λ ps. place_vector (all_fillings n ps) j ++ projection n (f x).variables (slice_index (f x).places j)) (sym (taken xs k))
