-- Vectors of bytes.
use Rattle.std.proofs.Common.{rules, ◌-◌, ◌≡◌, ℕ, zero, suc, ◌+◌, ◌*◌, ◌/◌, ◌%◌, ◌^◌, ◌<◌, ◌≤◌, List, [], ◌∷◌, ◌++◌, length, map, get_or, cond, true, false, refl, sym, ap, ◌∙◌, arith, w8, subst, bit_or, ◌⊎◌, inl, inr, Bool}
use Rattle.std.specs.Int.Bits.{bit_xor, or_shifted_r}
use Rattle.std.proofs.lemmas.Nat.{le_or_l, le_or_r}
use Rattle.std.proofs.Math.Nat.{eq-or-lt_of_le, add-mul-div_left, add-mul-mod_self_left, pow-le-pow_right, mod-eq_of_lt, div-eq_of_lt}
use Rattle.std.proofs.lemmas.Nat.{pow-add, pow_pos, div-mul-add}
use Rattle.std.specs.Prelude.{slice_index}
use Rattle.std.specs.List.{AllByRecursion, range_with_len}
use lib.Lanes.{Each1, number_l, zip2}
use mir.Val.{zeroes, bool_byte}
use Rattle.ua_rows.proofs.LineLaws.{all_or}
use Rattle.ua_rows.proofs.WordLaws.{same_from_xor}
use Rattle.ua_columns.specs.inner.Tiles.{word_across, looked_at, word_at}
use Rattle.std.proofs.lemmas.Simd.{swz_l, get_or-zip2}

pub each_from_all : (P : ℕ → Type 0) (xs : List ℕ) → AllByRecursion P xs → Each1 P xs
each_from_all P [] h = tt
each_from_all P (x ∷ xs) h = (h.0, each_from_all P xs h.1)

-- a byte below 128 names no zero
pub not_zeroed : (j : ℕ) → j < 16 → zeroes 16 w8 j ≡ false
not_zeroed j low = search rules

-- the lanes at positions below 16 of one block
pub swizzled : (line : List ℕ) (i : ℕ) (js : List ℕ) → i + length js ≤ 16 → AllByRecursion (λ j. j < 16) js → swz_l w8 16 line i js ≡ map (slice_index line) js
swizzled line i [] room low = refl
swizzled line i (j ∷ js) room low =
    let place : 16 * (i / 16) + j ≡ j = omega arith in
    let here : cond (zeroes 16 w8 j) 0 (get_or line (16 * (i / 16) + j) 0) ≡ slice_index line j = ap (λ z. cond z 0 (get_or line (16 * (i / 16) + j) 0)) (not_zeroed j low.0) ∙ ap (λ k. get_or line k 0) place in
    let rest = swizzled line (suc i) js (omega arith) low.1 in
    λ l. here l ∷ rest l

pub looked_small : (b : ℕ) (line js : List ℕ) → 0 < b → AllByRecursion (λ x. x < b) line → AllByRecursion (λ x. x < b) (map (slice_index line) js)
looked_small b line [] some h = tt
looked_small b line (j ∷ js) some h = (all_or (λ x. x < b) line j 0 some h, looked_small b line js some h)

-- sums of bytes are bytes
pub sums_below : (xs ys : List ℕ) → AllByRecursion (λ x. x < 256) (zip2 (λ a b. (a + b) % 256) xs ys)
sums_below [] ys = tt
sums_below (x ∷ xs) [] = tt
sums_below (x ∷ xs) (y ∷ ys) = (omega arith, sums_below xs ys)

-- ---- the bytes of two vectors, one after the other

in_first : (a b : List ℕ) (k : ℕ) → k < length a → get_or (a ++ b) k 0 ≡ get_or a k 0
in_first [] b k low = absurd (omega (arith, low))
in_first (x ∷ a) b zero low = refl
in_first (x ∷ a) b (suc k) low = in_first a b k (omega (arith, low))

in_second : (a b : List ℕ) (k : ℕ) → get_or (a ++ b) (length a + k) 0 ≡ get_or b k 0
in_second [] b k = let e : 0 + k ≡ k = omega arith in ap (λ i. get_or b i 0) e
in_second (x ∷ a) b k = let e : suc (length a) + k ≡ suc (length a + k) = omega arith in ap (λ i. get_or (x ∷ (a ++ b)) i 0) e ∙ in_second a b k

-- the word across, where the vectors come in pairs
pub word_across_pairs : (p0 p1 p2 p3 p4 p5 p6 p7 : List ℕ) (r s : ℕ) → r < 16 → s ≡ 16 + r → length p0 ≡ 16 → length p1 ≡ 16 → length p2 ≡ 16 → length p3 ≡ 16
    → number_l 256 (get_or (p0 ++ p4) r 0 ∷ get_or (p1 ++ p5) r 0 ∷ get_or (p2 ++ p6) r 0 ∷ get_or (p3 ++ p7) r 0
    ∷ get_or (p0 ++ p4) s 0 ∷ get_or (p1 ++ p5) s 0 ∷ get_or (p2 ++ p6) s 0 ∷ get_or (p3 ++ p7) s 0 ∷ [])
    ≡ word_across (p0 ∷ p1 ∷ p2 ∷ p3 ∷ p4 ∷ p5 ∷ p6 ∷ p7 ∷ []) r
word_across_pairs p0 p1 p2 p3 p4 p5 p6 p7 r s low is l0 l1 l2 l3 =
    let at : (a b : List ℕ) → length a ≡ 16 → get_or (a ++ b) r 0 ≡ get_or a r 0 = λ a b l. in_first a b r (omega (arith, low, l)) in
    let past : (a b : List ℕ) → length a ≡ 16 → get_or (a ++ b) s 0 ≡ get_or b r 0 = λ a b l. (let e : s ≡ length a + r = omega (arith, is, l) in ap (λ i. get_or (a ++ b) i 0) e ∙ in_second a b r) in
    let e0 = at p0 p4 l0 in let e1 = at p1 p5 l1 in let e2 = at p2 p6 l2 in let e3 = at p3 p7 l3 in
    let e4 = past p0 p4 l0 in let e5 = past p1 p5 l1 in let e6 = past p2 p6 l2 in let e7 = past p3 p7 l3 in
    λ i. number_l 256 (e0 i ∷ e1 i ∷ e2 i ∷ e3 i ∷ e4 i ∷ e5 i ∷ e6 i ∷ e7 i ∷ [])

-- ---- sums of looked-up values, lane by lane

mapped_at : (line js : List ℕ) (r : ℕ) → r < length js → get_or (map (slice_index line) js) r 0 ≡ slice_index line (slice_index js r)
mapped_at line [] r low = absurd (omega (arith, low))
mapped_at line (j ∷ js) zero low = refl
mapped_at line (j ∷ js) (suc r) low = mapped_at line js r (omega (arith, low))

pub sum_at : (xs ys : List ℕ) (r : ℕ) → r < length xs → r < length ys → get_or (zip2 (λ a b. (a + b) % 256) xs ys) r 0 ≡ (get_or xs r 0 + get_or ys r 0) % 256
sum_at xs ys r low next = get_or-zip2 (λ a b. (a + b) % 256) xs ys r 0 0 0 low next

pub looked_sum_at : (line js line' js' : List ℕ) (xs ys : List ℕ) (r : ℕ) → r < 16 → length js ≡ 16 → length js' ≡ 16 → xs ≡ map (slice_index line) js → ys ≡ map (slice_index line') js' → length xs ≡ 16 → length ys ≡ 16
    → get_or (zip2 (λ a b. (a + b) % 256) xs ys) r 0 ≡ (slice_index line (slice_index js r) + slice_index line' (slice_index js' r)) % 256
looked_sum_at line js line' js' xs ys r low long long' is is' l l' =
    let e : get_or xs r 0 ≡ slice_index line (slice_index js r) = ap (λ v. get_or v r 0) is ∙ mapped_at line js r (omega (arith, low, long)) in
    let e' : get_or ys r 0 ≡ slice_index line' (slice_index js' r) = ap (λ v. get_or v r 0) is' ∙ mapped_at line' js' r (omega (arith, low, long')) in
    sum_at xs ys r (omega (arith, low, l)) (omega (arith, low, l')) ∙ (λ i. (e i + e' i) % 256)

-- ---- two digits in a byte

two_digits : (a b x y p q : ℕ) → a ≡ 1 * p → b ≡ 16 * q → p < 16 → q < 16 → x ≡ y → (a + b) % 256 + 256 * x ≡ p + 16 * (q + 16 * y)
two_digits a b x y p q ea eb lp lq e =
    let sum : a + b ≡ p + 16 * q = omega (arith, ea, eb) in
    let small : (a + b) % 256 ≡ p + 16 * q = omega (arith, sum, lp, lq) in
    omega (arith, small, e)

-- a word of half-bytes has the values at its coordinates as digits, those of odd coordinates being times 16 in the lines
pub digits_of_word : (lines columns : List (List ℕ)) (r : ℕ) (v : ℕ → ℕ) → ((c : ℕ) → v c < 16) → ((c : ℕ) → c < 16 → looked_at lines columns r c ≡ 16 ^ (c % 2) * v c) → word_at lines columns r ≡ number_l 16 (map v (range_with_len 0 16))
digits_of_word lines columns r v small is =
    let w : ℕ → ℕ = looked_at lines columns r in
    let e14 = two_digits (w 14) (w 15) 0 0 (v 14) (v 15) (is 14 (omega arith)) (is 15 (omega arith)) (small 14) (small 15) refl in
    let e12 = two_digits (w 12) (w 13) _ _ (v 12) (v 13) (is 12 (omega arith)) (is 13 (omega arith)) (small 12) (small 13) e14 in
    let e10 = two_digits (w 10) (w 11) _ _ (v 10) (v 11) (is 10 (omega arith)) (is 11 (omega arith)) (small 10) (small 11) e12 in
    let e8 = two_digits (w 8) (w 9) _ _ (v 8) (v 9) (is 8 (omega arith)) (is 9 (omega arith)) (small 8) (small 9) e10 in
    let e6 = two_digits (w 6) (w 7) _ _ (v 6) (v 7) (is 6 (omega arith)) (is 7 (omega arith)) (small 6) (small 7) e8 in
    let e4 = two_digits (w 4) (w 5) _ _ (v 4) (v 5) (is 4 (omega arith)) (is 5 (omega arith)) (small 4) (small 5) e6 in
    let e2 = two_digits (w 2) (w 3) _ _ (v 2) (v 3) (is 2 (omega arith)) (is 3 (omega arith)) (small 2) (small 3) e4 in
    let e0 = two_digits (w 0) (w 1) _ _ (v 0) (v 1) (is 0 (omega arith)) (is 1 (omega arith)) (small 0) (small 1) e2 in
    e0

-- ---- one step of a loop over places

-- what holds below j and at j holds below j + 1
pub one_more : (P : ℕ → Type 0) (j : ℕ) → ((k : ℕ) → k < j → P k) → P j → (k : ℕ) → k < j + 1 → P k
one_more P j before here k low = by_cases (eq-or-lt_of_le (omega (arith, low)))
  where
    by_cases : (k ≡ j) ⊎ (k < j) → P k
    by_cases (inl e) = subst P (sym e) here
    by_cases (inr l) = before k l

pub none_differs : (bits a b : ℕ) → bit_or bits (bit_xor a b) ≡ 0 → (bits ≡ 0) × (a ≡ b)
none_differs bits a b e =
    let none : bits ≡ 0 = omega (arith, e, le_or_l bits (bit_xor a b)) in
    let apart : bit_xor a b ≡ 0 = omega (arith, e, le_or_r bits (bit_xor a b)) in
    (none, same_from_xor a b apart)

-- ---- bits below one that is set

positive : (k : ℕ) → 0 < 2 ^ k
positive k = pow_pos k

-- a bit at r changes none below it
pub bit_below : (bits b r k : ℕ) → k < r → (b * 2 ^ r + bits) / 2 ^ k % 2 ≡ bits / 2 ^ k % 2
bit_below bits b r k low =
    let j : ℕ = r - suc k in
    let split : r ≡ k + (1 + j) = omega (arith, low) in
    let power : 2 ^ r ≡ 2 ^ k * (2 * 2 ^ j) = ap (λ n. 2 ^ n) split ∙ pow-add 2 k (1 + j) ∙ ap (λ n. 2 ^ k * n) (pow-add 2 1 j) in
    let sum : b * 2 ^ r + bits ≡ bits + 2 ^ k * (2 * (b * 2 ^ j)) = regroup bits b (2 ^ r) (2 ^ k) (2 ^ j) power in
    ap (λ n. n / 2 ^ k % 2) sum ∙ ap (λ n. n % 2) (add-mul-div_left bits (2 * (b * 2 ^ j)) (positive k)) ∙ add-mul-mod_self_left (bits / 2 ^ k) 2 (b * 2 ^ j)
  where
    regroup : (bits b p q s : ℕ) → p ≡ q * (2 * s) → b * p + bits ≡ bits + q * (2 * (b * s))
    regroup bits b p q s e = ap (λ n. b * n + bits) e ∙ search arith

-- and is there itself
pub bit_at : (bits b r : ℕ) → bits < 2 ^ r → b < 2 → (b * 2 ^ r + bits) / 2 ^ r % 2 ≡ b
bit_at bits b r low small = ap (λ n. n % 2) (div-mul-add b (2 ^ r) bits low) ∙ omega (arith, small)

bit_times : (b p : ℕ) → b < 2 → b * p ≤ p
bit_times zero p low = omega arith
bit_times (suc zero) p low = omega arith
bit_times (suc (suc b)) p low = absurd (omega (arith, low))

abbrev pub bit_of : Bool → ℕ
bit_of t = cond t 1 0

pub byte_is_bit : (t : Bool) → bool_byte t ≡ bit_of t
byte_is_bit true = refl
byte_is_bit false = refl

pub bit_small : (t : Bool) → bit_of t < 2
bit_small true = omega arith
bit_small false = omega arith

pub bit_true : (t : Bool) → bit_of t ≡ 1 → t ≡ true
bit_true true e = refl
bit_true false e = absurd (omega (arith, e))

-- a bit is entered above the others
pub bit_entered : (bits b r : ℕ) → bits < 2 ^ r → b < 2 → r < 16 → (bit_or bits (b * 2 ^ r % 4294967296) ≡ b * 2 ^ r + bits) × (b * 2 ^ r + bits < 2 ^ (r + 1))
bit_entered bits b r low small few =
    let times = bit_times b (2 ^ r) small in
    let two : 0 < 2 = omega arith in
    let most : r ≤ 16 = omega (arith, few) in
    let bound : 2 ^ r ≤ 2 ^ 16 = pow-le-pow_right two most in
    let fits : b * 2 ^ r < 4294967296 = omega (arith, times, bound) in
    let next : 2 ^ (r + 1) ≡ 2 ^ r * 2 = pow-add 2 r 1 in
    (ap (bit_or bits) (mod-eq_of_lt fits) ∙ or_shifted_r b r bits low, omega (arith, times, low, next))

-- ---- words of the same digits

-- digits are told by their number
pub same_digits : (b : ℕ) (xs ys : List ℕ) → length xs ≡ length ys → AllByRecursion (λ x. x < b) xs → AllByRecursion (λ y. y < b) ys → number_l b xs ≡ number_l b ys → xs ≡ ys
same_digits b [] [] long low low' e = refl
same_digits b [] (y ∷ ys) long low low' e = absurd (omega (arith, long))
same_digits b (x ∷ xs) [] long low low' e = absurd (omega (arith, long))
same_digits b (x ∷ xs) (y ∷ ys) long low low' e =
    let some : 0 < b = (let a = low.0 in omega (arith, a)) in
    let here : x ≡ y = sym (remainder x (number_l b xs) low.0) ∙ ap (λ n. n % b) e ∙ remainder y (number_l b ys) low'.0 in
    let rest : number_l b xs ≡ number_l b ys = sym (quotient x (number_l b xs) low.0 some) ∙ ap (λ n. n / b) e ∙ quotient y (number_l b ys) low'.0 some in
    let more = same_digits b xs ys (omega (arith, long)) low.1 low'.1 rest in
    λ i. here i ∷ more i
  where
    remainder : (x n : ℕ) → x < b → (x + b * n) % b ≡ x
    remainder x n low = add-mul-mod_self_left x b n ∙ mod-eq_of_lt low

    quotient : (x n : ℕ) → x < b → 0 < b → (x + b * n) / b ≡ n
    quotient x n low some = add-mul-div_left x n some ∙ ap (λ q. q + n) (div-eq_of_lt low) ∙ omega arith
