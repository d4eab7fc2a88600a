-- The numbers of the tuples of some digits.
use Rattle.std.proofs.Common.{◌≡◌, ℕ, zero, suc, ◌+◌, ◌*◌, ◌^◌, ◌<◌, List, [], ◌∷◌, ◌++◌, length, map, refl, sym, ap, ◌∙◌, arith}
use Rattle.std.specs.Prelude.{fold}
use Rattle.std.specs.List.{AllByRecursion, flat_map}
use Rattle.std.proofs.lemmas.List.{length-map, append-nil}
use Rattle.std.proofs.Math.Nat.{pow-zero}
use Rattle.std.proofs.lemmas.List.Folds.{flat_map-map}
use Rattle.std.proofs.lemmas.List.Concat.{flat_map_single}
use Rattle.std.proofs.lemmas.Grind.{flat_map-append, pow_more}
use Rattle.std.proofs.lemmas.Simd.{map-map}
use Rattle.ua_table.specs.Algebras.{numeral}
use Rattle.ua_table.proofs.Digits.{next_digit}
use Rattle.ua_table.proofs.Lists.{all_append, map-flat_map, flat_map_agree}
use Rattle.ua_table.proofs.SpanLaws.{length_pieces}
use Rattle.ua_prod.specs.Constructions.{tuples_among}

-- ---- lists of lists

flat_flat : {X Y Z : Type 0} (h : Y → List Z) (g : X → List Y) (xs : List X) → flat_map h (flat_map g xs) ≡ flat_map (λ x. flat_map h (g x)) xs
flat_flat h g [] = refl
flat_flat h g (x ∷ xs) = flat_map-append h (g x) (flat_map g xs) ∙ ap (λ ys. flat_map h (g x) ++ ys) (flat_flat h g xs)

-- ---- numbers

module _ (n : ℕ) (ds : List ℕ) where
  -- the number with each digit behind it
  abbrev with_each : ℕ → List ℕ
  with_each m = map (λ x. m * n + x) ds

  -- the numbers of the tuples, behind a first number
  abbrev numbers_from : ℕ → ℕ → List ℕ
  numbers_from m i = map (λ t. fold (λ number digit. number * n + digit) m t) (tuples_among ds i)

  first_digit : (m i : ℕ) → numbers_from m (suc i) ≡ flat_map (λ x. numbers_from (m * n + x) i) ds
  first_digit m i =
      map-flat_map (λ t. fold (λ number digit. number * n + digit) m t) (λ x. map (λ t. x ∷ t) (tuples_among ds i)) ds
      ∙ flat_map_agree (λ x. map (λ t. fold (λ number digit. number * n + digit) m t) (map (λ t. x ∷ t) (tuples_among ds i)))
      (λ x. numbers_from (m * n + x) i) (λ x. map-map (λ t. fold (λ number digit. number * n + digit) m t) (λ t. x ∷ t) (tuples_among ds i)) ds

  last_digit : (i m : ℕ) → flat_map with_each (numbers_from m i) ≡ numbers_from m (suc i)
  last_digit zero m = append-nil (with_each m) ∙ sym (first_digit m zero ∙ flat_map_single (λ x. m * n + x) ds)
  last_digit (suc i) m =
      ap (flat_map with_each) (first_digit m i)
      ∙ flat_flat with_each (λ x. numbers_from (m * n + x) i) ds
      ∙ flat_map_agree (λ x. flat_map with_each (numbers_from (m * n + x) i)) (λ x. numbers_from (m * n + x) (suc i)) (λ x. last_digit i (m * n + x)) ds
      ∙ sym (first_digit m (suc i))

  -- one place more
  pub numbers_more : (i : ℕ) (numbers now : List ℕ) → numbers ≡ map (numeral n) (tuples_among ds i) → now ≡ flat_map with_each numbers → now ≡ map (numeral n) (tuples_among ds (i + 1))
  numbers_more i numbers now before is =
      let e : suc i ≡ i + 1 = omega arith in
      is ∙ ap (flat_map with_each) before ∙ last_digit i 0 ∙ ap (λ k. map (numeral n) (tuples_among ds k)) e

  module _ (below : AllByRecursion (λ x. x < n) ds) where
    each_below : (m i : ℕ) → m < n ^ i → (xs : List ℕ) → AllByRecursion (λ x. x < n) xs → AllByRecursion (λ k. k < n ^ (i + 1)) (map (λ x. m * n + x) xs)
    each_below m i low [] h = tt
    each_below m i low (x ∷ xs) h = (next_digit n m i x low h.0, each_below m i low xs h.1)

    pub numbers_below : (i : ℕ) (numbers : List ℕ) → AllByRecursion (λ m. m < n ^ i) numbers → AllByRecursion (λ m. m < n ^ (i + 1)) (flat_map with_each numbers)
    numbers_below i [] h = tt
    numbers_below i (m ∷ ms) h = all_append (λ k. k < n ^ (i + 1)) (with_each m) (flat_map with_each ms) (each_below m i h.0 ds below) (numbers_below i ms h.1)

-- how many tuples there are
pub count_tuples : (members : List ℕ) (k : ℕ) → length (tuples_among members k) ≡ length members ^ k
count_tuples members zero = sym (pow-zero (length members))
count_tuples members (suc k) =
    length_pieces (λ x. map (λ t. x ∷ t) (tuples_among members k)) (length (tuples_among members k)) (λ x. length-map (tuples_among members k) (λ (t : List ℕ). x ∷ t)) members
    ∙ ap (λ m. length members * m) (count_tuples members k)
    ∙ (let e : suc k ≡ k + 1 = omega arith in let more = pow_more (length members) k in let is : length members * length members ^ k ≡ length members ^ (k + 1) = omega (arith, more) in is ∙ ap (λ i. length members ^ i) (sym e))

-- the tuples of what f makes of some members
pub tuples_mapped : (f : ℕ → ℕ) (xs : List ℕ) (k : ℕ) → tuples_among (map f xs) k ≡ map (map f) (tuples_among xs k)
tuples_mapped f xs zero = refl
tuples_mapped f xs (suc k) =
    flat_map-map (λ y. map (λ t. y ∷ t) (tuples_among (map f xs) k)) f xs
    ∙ flat_map_agree (λ x. map (λ t. f x ∷ t) (tuples_among (map f xs) k)) (λ x. map (map f) (map (λ t. x ∷ t) (tuples_among xs k)))
    (λ x. ap (map (λ t. f x ∷ t)) (tuples_mapped f xs k) ∙ map-map (λ t. f x ∷ t) (map f) (tuples_among xs k) ∙ sym (map-map (map f) (λ t. x ∷ t) (tuples_among xs k))) xs
    ∙ sym (map-flat_map (map f) (λ x. map (λ t. x ∷ t) (tuples_among xs k)) xs)
