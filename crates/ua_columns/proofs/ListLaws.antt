-- Lists, their parts, and bits of numbers.
use Rattle.std.proofs.Common.{◌≡◌, ℕ, zero, suc, ◌+◌, ◌-◌, ◌*◌, ◌/◌, ◌%◌, ◌^◌, ◌<◌, ◌≤◌, List, [], ◌∷◌, ◌++◌, length, map, take, drop, get_or, refl, sym, ap, ◌∙◌, subst, arith, ⊎_elim}
use Rattle.std.specs.Prelude.{slice_index, slice_range}
use Rattle.std.specs.List.{AllByRecursion, range_with_len}
use Rattle.std.specs.Simd.Lanes.{number_l}
use Rattle.std.proofs.Math.Nat.{mul-le-mul_right, pow-zero, pow-suc, pow-le-pow_right, mod-lt, div-eq_of_lt}
use Rattle.std.proofs.Math.Arith.{mod-mul}
use Rattle.std.proofs.lemmas.Nat.{pow-add, pow_pos, div-mul-add, mod-mul-add}
use Rattle.std.proofs.lemmas.List.{length-append, length-drop, length-take-le, get_or-drop, get_or-take, drop-append-le, take-append-le, take-append-drop, drop_at, drop-drop}
use Rattle.std.proofs.Math.Seq.{take-append_seam}
use borrow.Rule.Slice.PartMut.{put_mid, post_of, drop_put}
use Rattle.std.proofs.lemmas.List.FromFn.{map-range_with_len_more}
use Rattle.std.proofs.lemmas.Bool.{cases_lt}
use Rattle.ua_table.proofs.Lists.{all_append}

pub all_drop : {X : Type 0} (P : X → Type 0) (xs : List X) (n : ℕ) → AllByRecursion P xs → AllByRecursion P (drop n xs)
all_drop P [] zero all = tt
all_drop P [] (suc n) all = tt
all_drop P (x ∷ xs) zero all = all
all_drop P (x ∷ xs) (suc n) all = all_drop P xs n all.1

-- a part of a list that goes on
pub range_before : {X : Type 0} (xs ys : List X) (a b : ℕ) → a ≤ b → b ≤ length xs → slice_range (xs ++ ys) a b ≡ slice_range xs a b
range_before xs ys a b order within =
    ap (take (b - a)) (drop-append-le a xs ys (omega (arith, order, within)))
    ∙ take-append-le (b - a) (drop a xs) ys (let l = length-drop a xs in omega (arith, l, order, within))

-- a part that was written over: what stands there, before it and after it
pub range_put : {X : Type 0} (xs ys : List X) (a k : ℕ) → length ys ≡ k → a + k ≤ length xs → slice_range (put_mid a k xs ys) a (a + k) ≡ ys
range_put xs ys a k long within =
    let front : length (take a xs) ≡ a = length-take-le a xs (omega (arith, within)) in
    let count : a + k - a ≡ length ys = omega (arith, long) in
    ap (take (a + k - a)) (drop_at (take a xs) (ys ++ post_of a k xs) a front)
    ∙ ap (λ n. take n (ys ++ post_of a k xs)) count ∙ take-append_seam ys (post_of a k xs)

pub range_put_before : {X : Type 0} (xs ys : List X) (a k b n : ℕ) → a + k ≤ length xs → b + n ≤ a → slice_range (put_mid a k xs ys) b (b + n) ≡ slice_range xs b (b + n)
range_put_before xs ys a k b n within before =
    let front : length (take a xs) ≡ a = length-take-le a xs (omega (arith, within)) in
    let low : b + n ≤ length (take a xs) = omega (arith, front, before) in
    range_before (take a xs) (ys ++ post_of a k xs) b (b + n) (omega arith) low
    ∙ sym (range_before (take a xs) (drop a xs) b (b + n) (omega arith) low)
    ∙ ap (λ l. slice_range l b (b + n)) (take-append-drop a xs)

pub range_put_after : {X : Type 0} (xs ys : List X) (a k b n : ℕ) → length ys ≡ k → a + k ≤ length xs → a + k ≤ b → slice_range (put_mid a k xs ys) b (b + n) ≡ slice_range xs b (b + n)
range_put_after xs ys a k b n long within after =
    let e : a + k - a ≡ k = omega arith in
    let split : b ≡ (a + k) + (b - (a + k)) = omega (arith, after) in
    let order : a ≤ a + k = omega arith in
    let same : drop (a + k) (put_mid a k xs ys) ≡ drop (a + k) xs = subst (λ m. drop (a + k) (put_mid a m xs ys) ≡ drop (a + k) xs) e (drop_put a (a + k) xs ys order within (long ∙ sym e)) in
    ap (take (b + n - b)) (ap (λ m. drop m (put_mid a k xs ys)) split ∙ sym (drop-drop (b - (a + k)) (a + k) (put_mid a k xs ys)) ∙ ap (drop (b - (a + k))) same ∙ drop-drop (b - (a + k)) (a + k) xs ∙ sym (ap (λ m. drop m xs) split))

pub length_range : {X : Type 0} (xs : List X) (a n : ℕ) → a + n ≤ length xs → length (slice_range xs a (a + n)) ≡ n
length_range xs a n low = length-take-le (a + n - a) (drop a xs) (let l = length-drop a xs in omega (arith, l, low)) ∙ omega arith

pub range_index : {X : Type 0} (xs : List X) (a n k : ℕ) (d : X) → k < n → get_or (slice_range xs a (a + n)) k d ≡ get_or xs (a + k) d
range_index xs a n k d low = get_or-take (a + n - a) (drop a xs) k d (omega (arith, low)) ∙ get_or-drop a xs k d

pub part_index : (keys : List ℕ) (a n k : ℕ) → k < n → slice_index (slice_range keys a (a + n)) k ≡ slice_index keys (a + k)
part_index keys a n k low = range_index keys a n k 0 low

pub put_long : (out line : List ℕ) (a k : ℕ) → length line ≡ k → a + k ≤ length out → length (put_mid a k out line) ≡ length out
put_long out line a k long within =
    let front = length-take-le a out (omega (arith, within)) in
    let one = length-append (take a out) (line ++ post_of a k out) in
    let two = length-append line (post_of a k out) in
    let three = length-drop k (drop a out) in
    let four = length-drop a out in
    omega (arith, front, one, two, three, four, long, within)

pub put_here : (out line : List ℕ) (size x y n : ℕ) → n ≡ size → length line ≡ size → x * size + size ≤ length out → y < size → slice_index (put_mid (x * size) n out line) (x * size + y) ≡ slice_index line y
put_here out line size x y n is long within low =
    ap (λ k. slice_index (put_mid (x * size) k out line) (x * size + y)) is
    ∙ sym (part_index (put_mid (x * size) size out line) (x * size) size y low)
    ∙ ap (λ (l : List ℕ). slice_index l y) (range_put out line (x * size) size long within)

pub put_before : (out line : List ℕ) (size x k y n : ℕ) → n ≡ size → x * size + size ≤ length out → y < size → k < x → slice_index (put_mid (x * size) n out line) (k * size + y) ≡ slice_index out (k * size + y)
put_before out line size x k y n is within low before =
    let e : (k + 1) * size ≡ k * size + size = omega arith in
    let m : (k + 1) * size ≤ x * size = mul-le-mul_right size (let l : k + 1 ≤ x = omega (arith, before) in l) in
    ap (λ j. slice_index (put_mid (x * size) j out line) (k * size + y)) is
    ∙ sym (part_index (put_mid (x * size) size out line) (k * size) size y low)
    ∙ ap (λ (l : List ℕ). slice_index l y) (range_put_before out line (x * size) size (k * size) size within (omega (arith, e, m)))
    ∙ part_index out (k * size) size y low

-- ---- what a function makes of a range

pub map_range_same : {X : Type 0} (f g : ℕ → X) (a n : ℕ) → ((k : ℕ) → k < n → f (a + k) ≡ g (a + k)) → map f (range_with_len a n) ≡ map g (range_with_len a n)
map_range_same f g a zero each = refl
map_range_same f g a (suc n) each =
    let s : suc n ≡ n + 1 = omega arith in
    ap (λ m. map f (range_with_len a m)) s ∙ map-range_with_len_more f a n (a + n) refl
    ∙ ap (λ front. front ++ f (a + n) ∷ []) (map_range_same f g a n (λ k low. each k (omega (arith, low))))
    ∙ ap (λ last. map g (range_with_len a n) ++ last ∷ []) (each n (omega arith))
    ∙ sym (map-range_with_len_more g a n (a + n) refl) ∙ sym (ap (λ m. map g (range_with_len a m)) s)

pub all_map_range : {X : Type 0} (P : X → Type 0) (f : ℕ → X) (a n : ℕ) → ((k : ℕ) → P (f k)) → AllByRecursion P (map f (range_with_len a n))
all_map_range P f a zero each = tt
all_map_range P f a (suc n) each =
    let s : suc n ≡ n + 1 = omega arith in
    subst (AllByRecursion P) (sym (ap (λ m. map f (range_with_len a m)) s ∙ map-range_with_len_more f a n (a + n) refl))
    (all_append P (map f (range_with_len a n)) (f (a + n) ∷ []) (all_map_range P f a n each) (each (a + n), tt))

-- ---- numbers by their digits

pub number_below : (b : ℕ) (xs : List ℕ) → AllByRecursion (λ x. x < b) xs → number_l b xs < b ^ length xs
number_below b [] all = (let e = pow-zero b in omega (arith, e))
number_below b (x ∷ xs) all =
    let rest = number_below b xs all.1 in
    let here = all.0 in
    let power : b ^ suc (length xs) ≡ b ^ length xs * b = pow-suc b (length xs) in
    let next : number_l b xs + 1 ≤ b ^ length xs = omega (arith, rest) in
    let times : (number_l b xs + 1) * b ≤ b ^ length xs * b = mul-le-mul_right b next in
    let spread : (number_l b xs + 1) * b ≡ b * number_l b xs + b = search arith in
    omega (arith, here, power, times, spread)

-- ---- bits

even_part : (y q : ℕ) → 0 < q → y % (q * 2) % 2 ≡ y % 2
even_part y q some =
    let two : 0 < 2 = omega arith in
    ap (λ n. n % 2) (mod-mul y some two) ∙ (let low : y % 2 < 2 = omega arith in mod-mul-add (y / 2 % q) 2 (y % 2) low)

-- the bits of what is left by a power are the first ones
pub bit_of_first : (x l r : ℕ) → x % 2 ^ l / 2 ^ r % 2 ≡ 1 → (r < l) × (x / 2 ^ r % 2 ≡ 1)
bit_of_first x l r set = ⊎_elim
    (λ low. (low, first low))
    (λ high. absurd (past high))
    (cases_lt r l)
  where
    first : r < l → x / 2 ^ r % 2 ≡ 1
    first low =
        let k : ℕ = l - suc r in
        let split : l ≡ (k + 1) + r = omega (arith, low) in
        let power : 2 ^ l ≡ (2 ^ k * 2) * 2 ^ r = ap (λ n. 2 ^ n) split ∙ pow-add 2 (k + 1) r ∙ ap (λ n. n * 2 ^ r) (pow-add 2 k 1) in
        let some : 0 < 2 ^ k = pow_pos k in
        let wide : 0 < 2 ^ k * 2 = omega (arith, some) in
        let one : 0 < 2 ^ r = pow_pos r in
        let rest : x % 2 ^ r < 2 ^ r = mod-lt x one in
        let is : x % 2 ^ l / 2 ^ r ≡ x / 2 ^ r % (2 ^ k * 2) = ap (λ n. x % n / 2 ^ r) power ∙ ap (λ n. n / 2 ^ r) (mod-mul x wide one) ∙ div-mul-add (x / 2 ^ r % (2 ^ k * 2)) (2 ^ r) (x % 2 ^ r) rest in
        sym (ap (λ n. n % 2) is ∙ even_part (x / 2 ^ r) (2 ^ k) some) ∙ set

    past : l ≤ r → ⊥
    past high =
        let two : 0 < 2 = omega arith in
        let most : 2 ^ l ≤ 2 ^ r = pow-le-pow_right two high in
        let one : 0 < 2 ^ l = pow_pos l in
        let below : x % 2 ^ l < 2 ^ l = mod-lt x one in
        let none : x % 2 ^ l / 2 ^ r ≡ 0 = div-eq_of_lt (omega (arith, below, most)) in
        (let e = ap (λ n. n % 2) none in omega (arith, e, set))

-- what holds of each number below sixteen
pub by_sixteen : (P : ℕ → Type 0) → P 0 → P 1 → P 2 → P 3 → P 4 → P 5 → P 6 → P 7 → P 8 → P 9 → P 10 → P 11 → P 12 → P 13 → P 14 → P 15 → (r : ℕ) → r < 16 → P r
by_sixteen P p0 p1 p2 p3 p4 p5 p6 p7 p8 p9 p10 p11 p12 p13 p14 p15 zero low = p0
by_sixteen P p0 p1 p2 p3 p4 p5 p6 p7 p8 p9 p10 p11 p12 p13 p14 p15 (suc zero) low = p1
by_sixteen P p0 p1 p2 p3 p4 p5 p6 p7 p8 p9 p10 p11 p12 p13 p14 p15 (suc (suc zero)) low = p2
by_sixteen P p0 p1 p2 p3 p4 p5 p6 p7 p8 p9 p10 p11 p12 p13 p14 p15 (suc (suc (suc zero))) low = p3
by_sixteen P p0 p1 p2 p3 p4 p5 p6 p7 p8 p9 p10 p11 p12 p13 p14 p15 (suc (suc (suc (suc zero)))) low = p4
by_sixteen P p0 p1 p2 p3 p4 p5 p6 p7 p8 p9 p10 p11 p12 p13 p14 p15 (suc (suc (suc (suc (suc zero))))) low = p5
by_sixteen P p0 p1 p2 p3 p4 p5 p6 p7 p8 p9 p10 p11 p12 p13 p14 p15 (suc (suc (suc (suc (suc (suc zero)))))) low = p6
by_sixteen P p0 p1 p2 p3 p4 p5 p6 p7 p8 p9 p10 p11 p12 p13 p14 p15 (suc (suc (suc (suc (suc (suc (suc zero))))))) low = p7
by_sixteen P p0 p1 p2 p3 p4 p5 p6 p7 p8 p9 p10 p11 p12 p13 p14 p15 (suc (suc (suc (suc (suc (suc (suc (suc zero)))))))) low = p8
by_sixteen P p0 p1 p2 p3 p4 p5 p6 p7 p8 p9 p10 p11 p12 p13 p14 p15 (suc (suc (suc (suc (suc (suc (suc (suc (suc zero))))))))) low = p9
by_sixteen P p0 p1 p2 p3 p4 p5 p6 p7 p8 p9 p10 p11 p12 p13 p14 p15 (suc (suc (suc (suc (suc (suc (suc (suc (suc (suc zero)))))))))) low = p10
by_sixteen P p0 p1 p2 p3 p4 p5 p6 p7 p8 p9 p10 p11 p12 p13 p14 p15 (suc (suc (suc (suc (suc (suc (suc (suc (suc (suc (suc zero))))))))))) low = p11
by_sixteen P p0 p1 p2 p3 p4 p5 p6 p7 p8 p9 p10 p11 p12 p13 p14 p15 (suc (suc (suc (suc (suc (suc (suc (suc (suc (suc (suc (suc zero)))))))))))) low = p12
by_sixteen P p0 p1 p2 p3 p4 p5 p6 p7 p8 p9 p10 p11 p12 p13 p14 p15 (suc (suc (suc (suc (suc (suc (suc (suc (suc (suc (suc (suc (suc zero))))))))))))) low = p13
by_sixteen P p0 p1 p2 p3 p4 p5 p6 p7 p8 p9 p10 p11 p12 p13 p14 p15 (suc (suc (suc (suc (suc (suc (suc (suc (suc (suc (suc (suc (suc (suc zero)))))))))))))) low = p14
by_sixteen P p0 p1 p2 p3 p4 p5 p6 p7 p8 p9 p10 p11 p12 p13 p14 p15 (suc (suc (suc (suc (suc (suc (suc (suc (suc (suc (suc (suc (suc (suc (suc zero))))))))))))))) low = p15
by_sixteen P p0 p1 p2 p3 p4 p5 p6 p7 p8 p9 p10 p11 p12 p13 p14 p15 (suc (suc (suc (suc (suc (suc (suc (suc (suc (suc (suc (suc (suc (suc (suc (suc r)))))))))))))))) low = absurd (omega (arith, low))
