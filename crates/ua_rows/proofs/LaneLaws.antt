-- Words of four elements as numbers.
use Rattle.std.proofs.Common.{◌≡◌, ℕ, zero, suc, ◌+◌, ◌-◌, ◌*◌, ◌/◌, ◌%◌, ◌^◌, ◌<◌, List, [], ◌∷◌, ◌++◌, length, take, get_or, ap, ◌∙◌, arith, bit_and}
use Rattle.std.specs.Prelude.{replicate}
use Rattle.std.proofs.Math.Nat.{mod-add-div', mod-lt}
use Rattle.std.proofs.lemmas.Nat.{and_mask}
use Rattle.std.specs.Simd.Lanes.{digits_l}
use Rattle.ua_rows.specs.Words.{word_of, lanes_of}

-- what is left by 65536
small : (n : ℕ) → n % 65536 < 65536
small n = mod-lt n (let p : 0 < 65536 = omega arith in p)

-- the elements of a number that is told by its elements
pub lanes_are : (a b c d x : ℕ) → a < 65536 → b < 65536 → c < 65536 → d < 65536 → x ≡ a + b * 65536 + c * 4294967296 + d * 281474976710656 → lanes_of x ≡ a ∷ b ∷ c ∷ d ∷ []
lanes_are a b c d x i j k l is =
    let one = mod-add-div' x 65536 in
    let one_low = small x in
    let second = mod-add-div' (x / 65536) 65536 in
    let second_low = small (x / 65536) in
    let two = mod-add-div' x 4294967296 in
    let two_low = mod-lt x (let p : 0 < 4294967296 = omega arith in p) in
    let third = mod-add-div' (x / 4294967296) 65536 in
    let third_low = small (x / 4294967296) in
    let three = mod-add-div' x 281474976710656 in
    let three_low = mod-lt x (let p : 0 < 281474976710656 = omega arith in p) in
    let fourth = mod-add-div' (x / 281474976710656) 65536 in
    let fourth_low = small (x / 281474976710656) in
    let first_is : x % 65536 ≡ a = omega (arith, is, one, one_low, i) in
    let second_is : x / 65536 % 65536 ≡ b = omega (arith, is, one, one_low, second, second_low, i, j) in
    let third_is : x / 4294967296 % 65536 ≡ c = omega (arith, is, two, two_low, third, third_low, i, j, k) in
    let fourth_is : x / 281474976710656 % 65536 ≡ d = omega (arith, is, three, three_low, fourth, fourth_low, i, j, k, l) in
    λ s. first_is s ∷ second_is s ∷ third_is s ∷ fourth_is s ∷ []

-- the elements of a word are those that its number was made of
pub lanes_of_word : (w : List ℕ) (x : ℕ) → length w ≡ 4 → ((j : ℕ) → get_or w j 0 < 65536) → x ≡ word_of w → lanes_of x ≡ w
lanes_of_word [] x long low is = absurd (omega (arith, long))
lanes_of_word (a ∷ []) x long low is = absurd (omega (arith, long))
lanes_of_word (a ∷ b ∷ []) x long low is = absurd (omega (arith, long))
lanes_of_word (a ∷ b ∷ c ∷ []) x long low is = absurd (omega (arith, long))
lanes_of_word (a ∷ b ∷ c ∷ d ∷ []) x long low is = lanes_are a b c d x (low 0) (low 1) (low 2) (low 3) is
lanes_of_word (a ∷ b ∷ c ∷ d ∷ e ∷ w) x long low is = absurd (omega (arith, long))

-- a number of 64 bits is that of its elements
pub word_of_lanes : (x : ℕ) → x < 2 ^ 64 → word_of (lanes_of x) ≡ x
word_of_lanes x fits =
    let one = mod-add-div' x 65536 in
    let one_low = small x in
    let second = mod-add-div' (x / 65536) 65536 in
    let second_low = small (x / 65536) in
    let two = mod-add-div' x 4294967296 in
    let two_low = mod-lt x (let p : 0 < 4294967296 = omega arith in p) in
    let third = mod-add-div' (x / 4294967296) 65536 in
    let third_low = small (x / 4294967296) in
    let three = mod-add-div' x 281474976710656 in
    let three_low = mod-lt x (let p : 0 < 281474976710656 = omega arith in p) in
    let fourth = mod-add-div' (x / 281474976710656) 65536 in
    let fourth_low = small (x / 281474976710656) in
    let parts : x / 65536 / 65536 ≡ x / 4294967296 = omega (arith, one, one_low, second, second_low, two, two_low) in
    let further : x / 4294967296 / 65536 ≡ x / 281474976710656 = omega (arith, two, two_low, third, third_low, three, three_low) in
    let last : x / 281474976710656 / 65536 ≡ 0 = omega (arith, fits, three, three_low, fourth, fourth_low) in
    omega (arith, one, second, third, fourth, parts, further, last)

-- the elements of two words as one number
pub lanes_of_two : (x y : ℕ) → x < 2 ^ 64 → digits_l 65536 8 (x + 18446744073709551616 * y) ≡ lanes_of x ++ lanes_of y
lanes_of_two x y fits = λ l. one l ∷ two l ∷ three l ∷ four l ∷ five l ∷ six l ∷ seven l ∷ eight l ∷ []
  where
    n : ℕ
    n = x + 18446744073709551616 * y

    one : n % 65536 ≡ x % 65536
    one = omega arith

    two : n / 65536 % 65536 ≡ x / 65536 % 65536
    two = omega arith

    three : n / 65536 / 65536 % 65536 ≡ x / 4294967296 % 65536
    three = omega arith

    four : n / 65536 / 65536 / 65536 % 65536 ≡ x / 281474976710656 % 65536
    four = omega arith

    rest : n / 65536 / 65536 / 65536 / 65536 ≡ y
    rest = omega (arith, fits)

    five : n / 65536 / 65536 / 65536 / 65536 % 65536 ≡ y % 65536
    five = ap (λ m. m % 65536) rest

    six : n / 65536 / 65536 / 65536 / 65536 / 65536 % 65536 ≡ y / 65536 % 65536
    six = ap (λ m. m / 65536 % 65536) rest

    seven : n / 65536 / 65536 / 65536 / 65536 / 65536 / 65536 % 65536 ≡ y / 4294967296 % 65536
    seven = ap (λ m. m / 65536 / 65536 % 65536) rest ∙ omega arith

    eight : n / 65536 / 65536 / 65536 / 65536 / 65536 / 65536 / 65536 % 65536 ≡ y / 281474976710656 % 65536
    eight = ap (λ m. m / 65536 / 65536 / 65536 % 65536) rest ∙ omega arith

-- ---- the last word of a row, of which only the first elements count

-- the first elements of a number
front_1 : (x : ℕ) → x < 2 ^ 64 → lanes_of (x % 65536) ≡ x % 65536 ∷ 0 ∷ 0 ∷ 0 ∷ []
front_1 x fits = lanes_are (x % 65536) 0 0 0 (x % 65536) (small x) (omega arith) (omega arith) (omega arith) (omega arith)

front_2 : (x : ℕ) → x < 2 ^ 64 → lanes_of (x % 4294967296) ≡ x % 65536 ∷ x / 65536 % 65536 ∷ 0 ∷ 0 ∷ []
front_2 x fits =
    let whole = word_of_lanes x fits in
    let two = mod-add-div' x 4294967296 in
    let two_low = mod-lt x (let p : 0 < 4294967296 = omega arith in p) in
    let a = small x in
    let b = small (x / 65536) in
    lanes_are (x % 65536) (x / 65536 % 65536) 0 0 (x % 4294967296) a b (omega arith) (omega arith) (omega (arith, whole, two, two_low, a, b))

front_3 : (x : ℕ) → x < 2 ^ 64 → lanes_of (x % 281474976710656) ≡ x % 65536 ∷ x / 65536 % 65536 ∷ x / 4294967296 % 65536 ∷ 0 ∷ []
front_3 x fits =
    let whole = word_of_lanes x fits in
    let three = mod-add-div' x 281474976710656 in
    let three_low = mod-lt x (let p : 0 < 281474976710656 = omega arith in p) in
    let a = small x in
    let b = small (x / 65536) in
    let c = small (x / 4294967296) in
    lanes_are (x % 65536) (x / 65536 % 65536) (x / 4294967296 % 65536) 0 (x % 281474976710656) a b c (omega arith) (omega (arith, whole, three, three_low, a, b, c))

front_4 : (x : ℕ) → x < 2 ^ 64 → lanes_of (x % 18446744073709551616) ≡ lanes_of x
front_4 x fits =
    let four = mod-add-div' x 18446744073709551616 in
    let four_low = mod-lt x (let p : 0 < 18446744073709551616 = omega arith in p) in
    let same : x % 18446744073709551616 ≡ x = omega (arith, fits, four, four_low) in
    ap lanes_of same

-- a word with its last k elements cleared, by the bits that are kept
pub cleared : (x k : ℕ) → x < 2 ^ 64 → k < 4 → lanes_of (bit_and x (18446744073709551615 / 2 ^ (16 * k))) ≡ take (4 - k) (lanes_of x) ++ replicate k 0
cleared x zero fits low = ap lanes_of (and_mask x 64) ∙ front_4 x fits
cleared x (suc zero) fits low = ap lanes_of (and_mask x 48) ∙ front_3 x fits
cleared x (suc (suc zero)) fits low = ap lanes_of (and_mask x 32) ∙ front_2 x fits
cleared x (suc (suc (suc zero))) fits low = ap lanes_of (and_mask x 16) ∙ front_1 x fits
cleared x (suc (suc (suc (suc n)))) fits low = absurd (omega (arith, low))
