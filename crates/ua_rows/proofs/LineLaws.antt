-- The elements of a word, looked up byte by byte in a line.
use Rattle.std.proofs.Common.{◌≡◌, ℕ, zero, suc, ◌+◌, ◌*◌, ◌/◌, ◌%◌, ◌^◌, ◌<◌, List, [], ◌∷◌, length, map, get_or, refl, sym, ap, ◌∙◌, subst, arith, Bor}
use Rattle.std.specs.Prelude.{cond, leb, slice_index, slice_index_or}
use Rattle.std.specs.List.{AllByRecursion, range_with_len}
use Rattle.std.proofs.lemmas.Bool.{lt-leb}
use Rattle.ua_table.specs.Algebras.{Vector, numeral}
use Rattle.ua_rows.specs.Words.{word_of, lanes_of}
use Rattle.ua_rows.specs.inner.Gathered.{vectors_behind}
use Rattle.ua_rows.specs.Kernels.{IsLineOf, looked}
use Rattle.ua_rows.proofs.LaneLaws.{lanes_are, word_of_lanes}

-- what a byte looks up in a line: from 128 on 0
abbrev value : List ℕ → ℕ → ℕ
value line j = cond (leb 128 j) 0 (slice_index_or line (0 + j) 0)

-- the number whose bytes are what so many bytes of a number look up
abbrev values : List ℕ → ℕ → ℕ → ℕ
values line n zero = 0
values line n (suc k) = value line (n % 256) + 256 * values line (n / 256) k

-- the first byte, and those behind it
first_byte : (line : List ℕ) (n x m k : ℕ) → n ≡ x + 256 * m → x < 256 → values line n (suc k) ≡ value line x + 256 * values line m k
first_byte line n x m k is low =
    let byte : n % 256 ≡ x = omega (arith, is, low) in
    let rest : n / 256 ≡ m = omega (arith, is, low) in
    λ i. value line (byte i) + 256 * values line (rest i) k

-- an element below 16, and its high byte
first_element : (line : List ℕ) (n x m l k : ℕ) → l ≡ 2 + k → n ≡ x + 256 * (128 + 256 * m) → x < 16 → values line n l ≡ slice_index line x + 65536 * values line m k
first_element line n x m l k count is low =
    let two_bytes : l ≡ suc (suc k) = omega (arith, count) in
    let one = first_byte line n x (128 + 256 * m) (suc k) is (omega (arith, low)) in
    let two = first_byte line (128 + 256 * m) 128 m k refl (omega arith) in
    let found : value line x ≡ slice_index line x = ap (λ b. cond b 0 (slice_index_or line (0 + x) 0)) (lt-leb 128 x (omega (arith, low))) ∙ ap (slice_index line) (let e : 0 + x ≡ x = omega arith in e) in
    let none : value line 128 ≡ 0 = refl in
    ap (values line n) two_bytes ∙ omega (arith, one, two, found, none)

-- what holds of each element, and of what stands past the end, holds at every place
pub all_or : {X : Type 0} (P : X → Type 0) (xs : List X) (k : ℕ) (d : X) → P d → AllByRecursion P xs → P (get_or xs k d)
all_or P [] k d past all = past
all_or P (x ∷ xs) zero d past all = all.0
all_or P (x ∷ xs) (suc k) d past all = all_or P xs k d past all.1

-- the elements of a word below 16, with 128 as the high byte of each, and what stands behind them
looked_word : (line : List ℕ) (word m k : ℕ) → word < 2 ^ 64 → AllByRecursion (λ x. x < 16) (lanes_of word)
    → values line (word + 9223512776490647552 + 18446744073709551616 * m) (8 + k) ≡ word_of (map (slice_index line) (lanes_of word)) + 18446744073709551616 * values line m k
looked_word line word m k fits low =
    let one = first_element line (word + 9223512776490647552 + 18446744073709551616 * m) a second (8 + k) (6 + k) (omega arith) all low.0 in
    let two = first_element line second b third (6 + k) (4 + k) (omega arith) refl low.1.0 in
    let three = first_element line third c fourth (4 + k) (2 + k) (omega arith) refl low.1.1.0 in
    let four = first_element line fourth d m (2 + k) k refl refl low.1.1.1.0 in
    omega (arith, one, two, three, four)
  where
    a : ℕ
    a = word % 65536

    b : ℕ
    b = word / 65536 % 65536

    c : ℕ
    c = word / 4294967296 % 65536

    d : ℕ
    d = word / 281474976710656 % 65536

    fourth : ℕ
    fourth = d + 256 * (128 + 256 * m)

    third : ℕ
    third = c + 256 * (128 + 256 * fourth)

    second : ℕ
    second = b + 256 * (128 + 256 * third)

    all : word + 9223512776490647552 + 18446744073709551616 * m ≡ a + 256 * (128 + 256 * second)
    all = let parts = word_of_lanes word fits in omega (arith, parts)

-- what stands in a line is an element
element_at : (line : List ℕ) → AllByRecursion (λ x. x < 16) line → (x : ℕ) → slice_index line x < 65536
element_at line small x = let k = all_or (λ v. v < 16) line x 0 (omega arith) small in omega (arith, k)

-- and what is looked up is below 16
pub looked_small : (line xs : List ℕ) → AllByRecursion (λ x. x < 16) line → AllByRecursion (λ x. x < 16) (map (slice_index line) xs)
looked_small line [] small = tt
looked_small line (x ∷ xs) small = (all_or (λ v. v < 16) line x 0 (omega arith) small, looked_small line xs small)

-- the elements that are looked up are those of a number that begins with them, cut to 64 bits
looked_are : (line : List ℕ) (word n m : ℕ) → AllByRecursion (λ x. x < 16) line → n ≡ word_of (map (slice_index line) (lanes_of word)) + 18446744073709551616 * m
    → lanes_of (n % 18446744073709551616) ≡ map (slice_index line) (lanes_of word) × n / 18446744073709551616 ≡ m
looked_are line word n m small is =
    let ka = element_at line small a in
    let kb = element_at line small b in
    let kc = element_at line small c in
    let kd = element_at line small d in
    (lanes_are (slice_index line a) (slice_index line b) (slice_index line c) (slice_index line d) (n % 18446744073709551616) ka kb kc kd (omega (arith, is, ka, kb, kc, kd)), omega (arith, is, ka, kb, kc, kd))
  where
    a : ℕ
    a = word % 65536

    b : ℕ
    b = word / 65536 % 65536

    c : ℕ
    c = word / 4294967296 % 65536

    d : ℕ
    d = word / 281474976710656 % 65536

-- the first of two words, and the values of what stands behind it
pub looked_first : (line : List ℕ) (word m : ℕ) → word < 2 ^ 64 → AllByRecursion (λ x. x < 16) line → AllByRecursion (λ x. x < 16) (lanes_of word)
    → lanes_of (values line (word + 9223512776490647552 + 18446744073709551616 * m) 16 % 18446744073709551616) ≡ map (slice_index line) (lanes_of word)
    × values line (word + 9223512776490647552 + 18446744073709551616 * m) 16 / 18446744073709551616 ≡ values line m 8
looked_first line word m fits small low =
    looked_are line word (values line (word + 9223512776490647552 + 18446744073709551616 * m) 16) (values line m 8) small (looked_word line word m 8 fits low)

-- the second of two words
pub looked_second : (line : List ℕ) (first second : ℕ) → first < 2 ^ 64 → second < 2 ^ 64 → AllByRecursion (λ x. x < 16) line → AllByRecursion (λ x. x < 16) (lanes_of first) → AllByRecursion (λ x. x < 16) (lanes_of second)
    → lanes_of (values line (first + 9223512776490647552 + 18446744073709551616 * (second + 9223512776490647552 + 0)) 16 / 18446744073709551616 % 18446744073709551616) ≡ map (slice_index line) (lanes_of second)
looked_second line first second fits fit small low lower =
    let behind = (looked_first line first (second + 9223512776490647552 + 0) fits small low).1 in
    (looked_are line second (values line (first + 9223512776490647552 + 18446744073709551616 * (second + 9223512776490647552 + 0)) 16 / 18446744073709551616) 0 small (behind ∙ looked_word line second 0 0 fit lower)).0

-- what is looked up at an element of one row is what the kernel reads there
pub line_at : (line cells : List ℕ) (rows : List Vector) (row : Vector) → rows ≡ row ∷ [] → 0 < length cells → IsLineOf cells line → AllByRecursion (AllByRecursion (λ x. x < length cells)) rows
    → (k : ℕ) → slice_index line (slice_index row k) ≡ looked cells (length cells) rows k
line_at line cells rows row one some are below k =
    are.values_are (slice_index row k) (all_or (λ x. x < length cells) row k 0 some (subst (AllByRecursion (AllByRecursion (λ x. x < length cells))) one below).0)
    ∙ ap (slice_index cells) (let e : slice_index row k ≡ numeral (length cells) (slice_index row k ∷ []) = omega arith in e)
    ∙ ap (λ (vs : List Vector). looked cells (length cells) vs k) (sym one)

-- and at four of them
pub line_read : (line cells : List ℕ) (rows : List Vector) (row : Vector) (word found i : ℕ) → rows ≡ row ∷ [] → 0 < length cells → IsLineOf cells line → AllByRecursion (AllByRecursion (λ x. x < length cells)) rows
    → lanes_of word ≡ map (slice_index row) (range_with_len i 4) → lanes_of found ≡ map (slice_index line) (lanes_of word) → lanes_of found ≡ map (looked cells (length cells) rows) (range_with_len i 4)
line_read line cells rows row word found i one some are below read is =
    let at : (k : ℕ) → slice_index line (slice_index row k) ≡ looked cells (length cells) rows k = line_at line cells rows row one some are below in
    is ∙ ap (map (slice_index line)) read ∙ (λ l. at i l ∷ at (i + 1) l ∷ at (i + 1 + 1) l ∷ at (i + 1 + 1 + 1) l ∷ [])

-- one reference, and the row behind it
pub one_behind : (rows : List (Bor (List ℕ))) → length rows ≡ 1 → vectors_behind rows ≡ (get_or rows 0 (record { ref_ptr = (0, 0); now = [] })).now ∷ []
one_behind [] one = absurd (omega (arith, one))
one_behind (row ∷ []) one = refl
one_behind (row ∷ next ∷ rows) one = absurd (omega (arith, one))
