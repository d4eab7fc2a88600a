-- Hashes that tell their vectors.
use Rattle.std.proofs.Common.{◌≡◌, ℕ, zero, suc, ◌+◌, ◌*◌, ◌%◌, ◌^◌, ◌<◌, List, [], ◌∷◌, length, take, drop, get_or, refl, sym, ap, ◌∙◌, subst, arith}
use Rattle.std.specs.Prelude.{Bool, true, false, slice_index, ◌==◌, nat_lt}
use Rattle.std.specs.List.{list_all}
use Rattle.std.proofs.Math.Nat.{mod-add-div', mod-lt}
use Rattle.std.proofs.lemmas.Bool.{and_parts, ltb-true}
use Rattle.std.proofs.lemmas.List.{get_or-drop}
use Rattle.std.proofs.lemmas.Grind.{same_number_lists}
use Rattle.ua_rows.specs.declared.words.TheConstants.{ODD, ALSO_ODD}
use Rattle.ua_rows.specs.Words.{padded, is_slim, half_bytes, slim_number, swapped, scattered, mix_of, hash_of, Tells}
use Rattle.ua_rows.specs.Indexing.{tag_of}
use Rattle.ua_rows.proofs.WordLaws.{hash_is, hash_of_slim, hash_of_others, slim_length}
use Rattle.ua_rows.proofs.ScratchLaws.{front_of_padded}

-- ---- numbers of 32 bits

-- no two are swapped to one
swapped_apart : (x y : ℕ) → x < 2 ^ 32 → y < 2 ^ 32 → swapped x ≡ swapped y → x ≡ y
swapped_apart x y low also e =
    let a = mod-add-div' x 65536 in
    let b = mod-add-div' y 65536 in
    omega (arith, low, also, e, a, b)

swapped_low : (x : ℕ) → x < 2 ^ 32 → swapped x < 2 ^ 32
swapped_low x low =
    let a = mod-add-div' x 65536 in
    let a_low = mod-lt x (let p : 0 < 65536 = omega arith in p) in
    omega (arith, low, a, a_low)

-- nor multiplied by an odd number to one
first_apart : (k m : ℕ) → k < 2 ^ 32 → m < 2 ^ 32 → k * ODD % 2 ^ 32 ≡ m * ODD % 2 ^ 32 → k ≡ m
first_apart k m low also e =
    let a = mod-add-div' (k * ODD) 4294967296 in
    let b = mod-add-div' (m * ODD) 4294967296 in
    omega (arith, low, also, a, b, e)

second_apart : (k m : ℕ) → k < 2 ^ 32 → m < 2 ^ 32 → k * ALSO_ODD % 2 ^ 32 ≡ m * ALSO_ODD % 2 ^ 32 → k ≡ m
second_apart k m low also e =
    let a = mod-add-div' (k * ALSO_ODD) 4294967296 in
    let b = mod-add-div' (m * ALSO_ODD) 4294967296 in
    omega (arith, low, also, a, b, e)

pub scattered_apart : (k m : ℕ) → k < 2 ^ 32 → m < 2 ^ 32 → scattered k ≡ scattered m → k ≡ m
scattered_apart k m low also e =
    let some : 0 < 2 ^ 32 = omega arith in
    let x = swapped (k * ODD % 2 ^ 32) in
    let y = swapped (m * ODD % 2 ^ 32) in
    let x_low = swapped_low (k * ODD % 2 ^ 32) (mod-lt (k * ODD) some) in
    let y_low = swapped_low (m * ODD % 2 ^ 32) (mod-lt (m * ODD) some) in
    first_apart k m low also (swapped_apart (k * ODD % 2 ^ 32) (m * ODD % 2 ^ 32) (mod-lt (k * ODD) some) (mod-lt (m * ODD) some)
    (second_apart x y x_low y_low (swapped_apart (x * ALSO_ODD % 2 ^ 32) (y * ALSO_ODD % 2 ^ 32) (mod-lt (x * ALSO_ODD) some) (mod-lt (y * ALSO_ODD) some) e)))

-- ---- half-bytes

-- elements below 16 at each place
small_at : (xs : List ℕ) (k : ℕ) → list_all (λ x. nat_lt x 16) xs ≡ true → slice_index xs k < 16
small_at [] k all = omega arith
small_at (x ∷ xs) zero all = ltb-true x 16 (and_parts (nat_lt x 16) (list_all (λ y. nat_lt y 16) xs) all).0
small_at (x ∷ xs) (suc k) all = small_at xs k (and_parts (nat_lt x 16) (list_all (λ y. nat_lt y 16) xs) all).1

-- four half-bytes tell their elements
digits_apart : (a b c d e f g h : ℕ) → a < 16 → b < 16 → c < 16 → d < 16 → e < 16 → f < 16 → g < 16 → h < 16
    → a + b * 16 + c * 256 + d * 4096 ≡ e + f * 16 + g * 256 + h * 4096 → (a ≡ e) × (b ≡ f) × (c ≡ g) × (d ≡ h)
digits_apart a b c d e f g h ka kb kc kd ke kf kg kh is =
    let last : d ≡ h = omega (arith, ka, kb, kc, ke, kf, kg, is) in
    let third : c ≡ g = omega (arith, ka, kb, ke, kf, is, last) in
    let second : b ≡ f = omega (arith, ka, ke, is, last, third) in
    (omega (arith, is, last, third, second), second, third, last)

-- lists of eight with the same elements
same_eight : (xs ys : List ℕ) → length xs ≡ 8 → length ys ≡ 8
    → (slice_index xs 0 ≡ slice_index ys 0) × (slice_index xs 1 ≡ slice_index ys 1) × (slice_index xs 2 ≡ slice_index ys 2) × (slice_index xs 3 ≡ slice_index ys 3)
    → (slice_index xs 4 ≡ slice_index ys 4) × (slice_index xs 5 ≡ slice_index ys 5) × (slice_index xs 6 ≡ slice_index ys 6) × (slice_index xs 7 ≡ slice_index ys 7) → xs ≡ ys
same_eight xs ys long also first second = same_number_lists xs ys (long ∙ sym also) at
  where
    at : (k : ℕ) → k < length xs → get_or xs k 0 ≡ get_or ys k 0
    at zero low = first.0
    at (suc zero) low = first.1
    at (suc (suc zero)) low = first.2
    at (suc (suc (suc zero))) low = first.3
    at (suc (suc (suc (suc zero)))) low = second.0
    at (suc (suc (suc (suc (suc zero))))) low = second.1
    at (suc (suc (suc (suc (suc (suc zero)))))) low = second.2
    at (suc (suc (suc (suc (suc (suc (suc zero))))))) low = second.3
    at (suc (suc (suc (suc (suc (suc (suc (suc k)))))))) low = absurd (omega (arith, low, long))

-- the half-bytes of the elements of a word
half_bytes_low : (xs : List ℕ) → ((k : ℕ) → slice_index xs k < 16) → half_bytes xs < 65536
half_bytes_low xs low = let a = low 0 in let b = low 1 in let c = low 2 in let d = low 3 in omega (arith, a, b, c, d)

half_bytes_apart : (xs ys : List ℕ) → ((k : ℕ) → slice_index xs k < 16) → ((k : ℕ) → slice_index ys k < 16) → half_bytes xs ≡ half_bytes ys
    → (slice_index xs 0 ≡ slice_index ys 0) × (slice_index xs 1 ≡ slice_index ys 1) × (slice_index xs 2 ≡ slice_index ys 2) × (slice_index xs 3 ≡ slice_index ys 3)
half_bytes_apart xs ys low also is =
    digits_apart (slice_index xs 0) (slice_index xs 1) (slice_index xs 2) (slice_index xs 3) (slice_index ys 0) (slice_index ys 1) (slice_index ys 2) (slice_index ys 3)
    (low 0) (low 1) (low 2) (low 3) (also 0) (also 1) (also 2) (also 3) is

-- cells that are slim and have one number are equal
pub slim_apart : (xs ys : List ℕ) → is_slim xs ≡ true → is_slim ys ≡ true → slim_number xs ≡ slim_number ys → xs ≡ ys
slim_apart xs ys slim also is = same_eight xs ys (slim_length xs slim) (slim_length ys also)
    (half_bytes_apart xs ys a b front)
    (let h = half_bytes_apart (drop 4 xs) (drop 4 ys) (λ k. subst (λ x. x < 16) (sym (get_or-drop 4 xs k 0)) (a (4 + k))) (λ k. subst (λ x. x < 16) (sym (get_or-drop 4 ys k 0)) (b (4 + k))) rest in
    (moved 0 h.0, moved 1 h.1, moved 2 h.2, moved 3 h.3))
  where
    a : (k : ℕ) → slice_index xs k < 16
    a k = small_at xs k (and_parts (length xs == 8) (list_all (λ x. nat_lt x 16) xs) slim).1

    b : (k : ℕ) → slice_index ys k < 16
    b k = small_at ys k (and_parts (length ys == 8) (list_all (λ x. nat_lt x 16) ys) also).1

    front : half_bytes xs ≡ half_bytes ys
    front = let p = half_bytes_low xs a in let q = half_bytes_low ys b in omega (arith, is, p, q)

    rest : half_bytes (drop 4 xs) ≡ half_bytes (drop 4 ys)
    rest = omega (arith, is, front)

    moved : (k : ℕ) → slice_index (drop 4 xs) k ≡ slice_index (drop 4 ys) k → slice_index xs (4 + k) ≡ slice_index ys (4 + k)
    moved k e = sym (get_or-drop 4 xs k 0) ∙ e ∙ get_or-drop 4 ys k 0

-- the number of slim cells has 32 bits
slim_low : (xs : List ℕ) → is_slim xs ≡ true → slim_number xs < 2 ^ 32
slim_low xs slim =
    let a : (k : ℕ) → slice_index xs k < 16 = λ k. small_at xs k (and_parts (length xs == 8) (list_all (λ x. nat_lt x 16) xs) slim).1 in
    let p = half_bytes_low xs a in
    let q = half_bytes_low (drop 4 xs) (λ k. subst (λ x. x < 16) (sym (get_or-drop 4 xs k 0)) (a (4 + k))) in
    omega (arith, p, q)

-- ---- hashes

-- a hash that tells its vector is that of a slim one
told_slim : (v : List ℕ) → Tells (hash_of v) → is_slim (padded v) ≡ true
told_slim v odd = by_cases (is_slim (padded v)) refl
  where
    by_cases : (b : Bool) → is_slim (padded v) ≡ b → is_slim (padded v) ≡ true
    by_cases true e = e
    by_cases false e =
        let even = hash_is v ∙ hash_of_others (padded v) (mix_of v) e in
        let whole = mod-add-div' (hash_of v) 2 in
        absurd (omega (arith, even, odd, whole))

-- the tag of a hash that tells its vector
told_tag : (v : List ℕ) → is_slim (padded v) ≡ true → tag_of (hash_of v) ≡ scattered (slim_number (padded v))
told_tag v slim =
    let is = hash_is v ∙ hash_of_slim (padded v) (mix_of v) slim in
    let whole = mod-add-div' (hash_of v) 4294967296 in
    let low = mod-lt (hash_of v) (let p : 0 < 4294967296 = omega arith in p) in
    omega (arith, is, whole, low)

-- two vectors of one width whose hashes tell them, and have one tag, are equal
pub same_from_tags : (v w : List ℕ) → length v ≡ length w → Tells (hash_of v) → Tells (hash_of w) → tag_of (hash_of v) ≡ tag_of (hash_of w) → v ≡ w
same_from_tags v w long odd also tags =
    let slim = told_slim v odd in
    let other = told_slim w also in
    let number : slim_number (padded v) ≡ slim_number (padded w) = scattered_apart (slim_number (padded v)) (slim_number (padded w)) (slim_low (padded v) slim) (slim_low (padded w) other) (sym (told_tag v slim) ∙ tags ∙ told_tag w other) in
    sym (front_of_padded v (length v) refl) ∙ ap (take (length v)) (slim_apart (padded v) (padded w) slim other number) ∙ front_of_padded w (length v) (sym long)
