-- Look-ups in lines of up to sixty-four numbers.
use Rattle.std.proofs.Common.{◌≡◌, ℕ, zero, suc, ◌/◌, ◌%◌, ◌<◌, List, [], ◌∷◌, length, map, get_or, replicate, cond, leb, eqb, Bool, true, refl, sym, ap, ◌∙◌, arith, subst, bit_and}
use Rattle.std.proofs.lemmas.Bool.{agree_below_at, eqb-true}
use Rattle.std.proofs.lemmas.List.{length-map, get_or-map}
use Rattle.std.proofs.lemmas.Simd.{zip2_splat, map-map}
use Rattle.std.specs.List.{AllByRecursion}
use lib.Lanes.{zip2, sel_l, top}
use Rattle.ua_rows.proofs.LineLaws.{all_or}
use Rattle.ua_columns.specs.inner.Tiles.{value_across, looked_across}

-- ---- the place of a number in its table, and the bits that tell which table it is

abbrev place_of : ℕ → ℕ
place_of x = bit_and x 15

abbrev is_odd : ℕ → Bool
is_odd x = top 7 (cond (eqb (bit_and x 16) 16) 255 0)

abbrev is_late : ℕ → Bool
is_late x = top 7 (cond (leb 32 x) 255 0)

place_at : (x : ℕ) → x < 64 → place_of x ≡ x % 16
place_at x low = eqb-true (place_of x) (x % 16) (agree_below_at (λ y. eqb (place_of y) (y % 16)) (λ y. true) 64 x refl low)

odd_at : (x : ℕ) → x < 64 → is_odd x ≡ eqb (x / 16 % 2) 1
odd_at x low = agree_below_at is_odd (λ y. eqb (y / 16 % 2) 1) 64 x refl low

late_at : (x : ℕ) → x < 64 → is_late x ≡ leb 2 (x / 16)
late_at x low = agree_below_at is_late (λ y. leb 2 (y / 16)) 64 x refl low

-- the same of a vector, as the operations on vectors give them
places : (xs : List ℕ) (n : ℕ) → length xs ≡ n → zip2 bit_and xs (replicate n 15) ≡ map place_of xs
places xs n long = zip2_splat bit_and xs n 15 long

odds : (xs : List ℕ) (n : ℕ) → length xs ≡ n → map (top 7) (zip2 (λ a b. cond (eqb a b) 255 0) (zip2 bit_and xs (replicate n 16)) (replicate n 16)) ≡ map is_odd xs
odds [] n e = refl
odds (x ∷ xs) zero e = absurd (omega (arith, e))
odds (x ∷ xs) (suc n) e = ap (λ l. is_odd x ∷ l) (odds xs n (omega (arith, e)))

lates : (xs : List ℕ) (n : ℕ) → length xs ≡ n → map (top 7) (zip2 (λ a b. cond (leb a b) 255 0) (replicate n 32) xs) ≡ map is_late xs
lates [] zero e = refl
lates [] (suc n) e = absurd (omega (arith, e))
lates (x ∷ xs) zero e = absurd (omega (arith, e))
lates (x ∷ xs) (suc n) e = ap (λ l. is_late x ∷ l) (lates xs n (omega (arith, e)))

each_place_low : (xs : List ℕ) → AllByRecursion (λ x. x < 64) xs → AllByRecursion (λ x. x < 16) (map place_of xs)
each_place_low [] low = tt
each_place_low (x ∷ xs) low = (let e = place_at x low.0 in omega (arith, e), each_place_low xs low.1)

pub places_low : (xs : List ℕ) → length xs ≡ 16 → AllByRecursion (λ x. x < 64) xs → AllByRecursion (λ x. x < 16) (zip2 bit_and xs (replicate 16 15))
places_low xs long low = subst (AllByRecursion (λ x. x < 16)) (sym (places xs 16 long)) (each_place_low xs low)

-- ---- a line of four tables

blended : (p : ℕ → Bool) (f g : ℕ → ℕ) (xs : List ℕ) → sel_l (map p xs) (map f xs) (map g xs) ≡ map (λ x. cond (p x) (f x) (g x)) xs
blended p f g [] = refl
blended p f g (x ∷ xs) = ap (λ l. cond (p x) (f x) (g x) ∷ l) (blended p f g xs)

module _ (t0 t1 t2 t3 : List ℕ) where
  abbrev tables : List (List ℕ)
  tables = t0 ∷ t1 ∷ t2 ∷ t3 ∷ []

  abbrev blend : Bool → Bool → ℕ → ℕ
  blend late odd p = cond late (cond odd (get_or t3 p 0) (get_or t2 p 0)) (cond odd (get_or t1 p 0) (get_or t0 p 0))

  blend_at : (q p : ℕ) → q < 4 → blend (leb 2 q) (eqb (q % 2) 1) p ≡ get_or (get_or tables q []) p 0
  blend_at zero p low = refl
  blend_at (suc zero) p low = refl
  blend_at (suc (suc zero)) p low = refl
  blend_at (suc (suc (suc zero))) p low = refl
  blend_at (suc (suc (suc (suc q)))) p low = absurd (omega (arith, low))

  blends : (xs : List ℕ) → AllByRecursion (λ x. x < 64) xs → map (λ x. blend (is_late x) (is_odd x) (place_of x)) xs ≡ map (value_across tables) xs
  blends [] low = refl
  blends (x ∷ xs) low =
      let l = late_at x low.0 in
      let o = odd_at x low.0 in
      let p = place_at x low.0 in
      let small = low.0 in
      let here = (λ i. blend (l i) (o i) (p i)) ∙ blend_at (x / 16) (x % 16) (omega (arith, small)) in
      let rest = blends xs low.1 in
      λ i. here i ∷ rest i

  pub values_across : (xs r0 r1 r2 r3 : List ℕ) → length xs ≡ 16 → AllByRecursion (λ x. x < 64) xs
      → r0 ≡ map (λ p. get_or t0 p 0) (zip2 bit_and xs (replicate 16 15))
      → r1 ≡ map (λ p. get_or t1 p 0) (zip2 bit_and xs (replicate 16 15))
      → r2 ≡ map (λ p. get_or t2 p 0) (zip2 bit_and xs (replicate 16 15))
      → r3 ≡ map (λ p. get_or t3 p 0) (zip2 bit_and xs (replicate 16 15))
      → sel_l (map (top 7) (zip2 (λ a b. cond (leb a b) 255 0) (replicate 16 32) xs))
      (sel_l (map (top 7) (zip2 (λ a b. cond (eqb a b) 255 0) (zip2 bit_and xs (replicate 16 16)) (replicate 16 16))) r3 r2)
      (sel_l (map (top 7) (zip2 (λ a b. cond (eqb a b) 255 0) (zip2 bit_and xs (replicate 16 16)) (replicate 16 16))) r1 r0)
      ≡ map (value_across tables) xs
  values_across xs r0 r1 r2 r3 long low e0 e1 e2 e3 =
      let at : (t r : List ℕ) → r ≡ map (λ p. get_or t p 0) (zip2 bit_and xs (replicate 16 15)) → r ≡ map (λ x. get_or t (place_of x) 0) xs =
      λ t r is. is ∙ ap (map (λ p. get_or t p 0)) (places xs 16 long) ∙ map-map (λ p. get_or t p 0) place_of xs in
      let l = lates xs 16 long in
      let o = odds xs 16 long in
      let a0 = at t0 r0 e0 in
      let a1 = at t1 r1 e1 in
      let a2 = at t2 r2 e2 in
      let a3 = at t3 r3 e3 in
      let front = (λ i. sel_l (o i) (a1 i) (a0 i)) ∙ blended is_odd _ _ xs in
      let back = (λ i. sel_l (o i) (a3 i) (a2 i)) ∙ blended is_odd _ _ xs in
      (λ i. sel_l (l i) (back i) (front i)) ∙ blended is_late _ _ xs ∙ blends xs low

-- a value of tables of bytes is a byte
pub values_small : (tables : List (List ℕ)) (xs : List ℕ) → AllByRecursion (AllByRecursion (λ x. x < 256)) tables → AllByRecursion (λ x. x < 256) (map (value_across tables) xs)
values_small tables [] small = tt
values_small tables (x ∷ xs) small = (all_or (λ v. v < 256) (get_or tables (x / 16) []) (x % 16) 0 (omega arith) (all_or (AllByRecursion (λ v. v < 256)) tables (x / 16) [] tt small), values_small tables xs small)

-- what four tiles have at one coordinate
pub of_four : {A B : Type 0} (f : A → B) (xs : List A) (d : A) → length xs ≡ 4 → map f xs ≡ f (get_or xs 0 d) ∷ f (get_or xs 1 d) ∷ f (get_or xs 2 d) ∷ f (get_or xs 3 d) ∷ []
of_four f [] d e = absurd (omega (arith, e))
of_four f (a ∷ []) d e = absurd (omega (arith, e))
of_four f (a ∷ b ∷ []) d e = absurd (omega (arith, e))
of_four f (a ∷ b ∷ c ∷ []) d e = absurd (omega (arith, e))
of_four f (a ∷ b ∷ c ∷ g ∷ []) d e = refl
of_four f (a ∷ b ∷ c ∷ g ∷ h ∷ xs) d e = absurd (omega (arith, e))

-- one lane of the values of a line at a column
pub lane_across : (lines : List (List (List ℕ))) (columns : List (List ℕ)) (c r : ℕ) (v : List ℕ) → r < 16 → length v ≡ 16 → v ≡ map (value_across (map (λ (tile : List (List ℕ)). get_or tile c []) lines)) (get_or columns c [])
    → get_or v r 0 ≡ looked_across lines columns r c
lane_across lines columns c r v low long is =
    let value = value_across (map (λ (tile : List (List ℕ)). get_or tile c []) lines) in
    let column = get_or columns c [] in
    ap (λ l. get_or l r 0) is ∙ get_or-map value column r 0 0 (omega (arith, low, long, ap length is, length-map column value))
