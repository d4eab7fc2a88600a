-- A word that is a key: the values that it is made of are the entries of a vector.
use Rattle.std.proofs.Common.{◌≡◌, ℕ, ◌+◌, ◌-◌, ◌*◌, ◌/◌, ◌%◌, ◌^◌, ◌<◌, ◌≤◌, Bool, true, false, List, [], length, map, drop, get_or, Vec, refl, sym, ap, ◌∙◌, subst, arith}
use Rattle.std.specs.Prelude.{slice_index, slice_index_or, slice_range, Contains}
use Rattle.std.specs.List.{AllByRecursion, range_with_len}
use Rattle.std.specs.Simd.Lanes.{number_l}
use Rattle.std.specs.declared.alloc.Global.{Global}
use Rattle.std.proofs.lemmas.Grind.{div_ceil_times}
use Rattle.std.proofs.lemmas.List.FromFn.{length-map-range_with_len, get_or-map-range_with_len}
use Rattle.std.proofs.lemmas.List.{get_or-map}
use Rattle.ua_table.specs.Algebras.{Vector}
use Rattle.ua_table.proofs.Lists.{all_take}
use Rattle.ua_columns.specs.inner.Tiles.{looked_at, looked_across, word_at, byte_word_at, AreWords, AreByteWords, IsKeyAt}
use Rattle.ua_columns.specs.Columns.{limit, digits, base, AreBelow, entry_of, word_of, key_of, tiles_for, words_for, block_of, vector_in, vectors_in, AreColumns, AreLines, AreByteLines, AreLinesOf, values_at}
use Rattle.ua_columns.specs.inner.Columns.{AreDigits}
use Rattle.ua_columns.proofs.TileLaws.{digits_of_word, same_digits}
use Rattle.ua_columns.proofs.ListLaws.{all_drop, all_map_range, map_range_same, length_range, range_index}
use Rattle.ua_columns.proofs.ColumnLaws.{entry_low, some_limit, limit_base}
use Rattle.ua_columns.proofs.PushLaws.{block_whole}

pub half_digits : (f : ℕ → ℕ → ℕ) (lines block : List (List (List ℕ))) (values : List (List ℕ)) → AreLines f lines → length lines ≡ length values → AreBelow 16 block → AreWords lines block values → AreDigits false f block values
half_digits f lines block values are long small are_words j r below low =
    ap (λ (ws : List ℕ). slice_index ws r) (are_words j below)
    ∙ get_or-map-range_with_len (word_at (slice_index_or lines j []) (slice_index_or block j [])) 0 16 r r 0 low (omega arith)
    ∙ digits_of_word (slice_index_or lines j []) (slice_index_or block j []) r looked (λ c. are.below (16 * j + c) (entry_of block r (16 * j + c))) scaled
  where
    looked : ℕ → ℕ
    looked c = f (16 * j + c) (entry_of block r (16 * j + c))

    scaled : (c : ℕ) → c < 16 → looked_at (slice_index_or lines j []) (slice_index_or block j []) r c ≡ 16 ^ (c % 2) * looked c
    scaled c column =
        let place : (16 * j + c) / 16 ≡ j = omega (arith, column) in
        let rest : (16 * j + c) % 16 ≡ c = omega (arith, column) in
        let parity : (16 * j + c) % 2 ≡ c % 2 = omega arith in
        let within : 16 * j + c < 16 * length lines = omega (arith, below, column, long) in
        subst (λ (q : ℕ × (ℕ × ℕ)). slice_index (slice_index_or (slice_index_or lines q.0 []) q.1.0 []) (slice_index (slice_index_or (slice_index_or block q.0 []) q.1.0 []) r) ≡ 16 ^ q.1.1 * looked c) (λ i. (place i, (rest i, parity i)))
        (are.scaled (16 * j + c) (entry_of block r (16 * j + c)) within (entry_low 16 block r (16 * j + c) (omega arith) small))

pub byte_digits : (f : ℕ → ℕ → ℕ) (lines block : List (List (List ℕ))) (values : List (List ℕ)) → AreByteLines f lines
    → length lines ≡ 4 * length block → length values ≤ 2 * length block → AreBelow 64 block → AreByteWords lines block values
    → AreDigits true f block values
byte_digits f lines block values are long within small are_words j r below low =
    ap (λ (ws : List ℕ). slice_index ws r) (are_words j below)
    ∙ get_or-map-range_with_len (byte_word_at (slice_range lines (4 * (j / 2)) (4 * (j / 2) + 4)) (slice_index_or block (j / 2) []) (8 * (j % 2))) 0 16 r r 0 low (omega arith)
    ∙ ap (number_l 256)
    (map_range_same (λ c. looked_across (slice_range lines (4 * (j / 2)) (4 * (j / 2) + 4)) (slice_index_or block (j / 2) []) r (8 * (j % 2) + c))
    (λ c. f (8 * j + c) (entry_of block r (8 * j + c))) 0 8 (λ c column. value (0 + c) (omega (arith, column))))
  where
    value : (c : ℕ) → c < 8 → looked_across (slice_range lines (4 * (j / 2)) (4 * (j / 2) + 4)) (slice_index_or block (j / 2) []) r (8 * (j % 2) + c) ≡ f (8 * j + c) (entry_of block r (8 * j + c))
    value c column =
        let k : ℕ = 8 * (j % 2) + c in
        let tile : (8 * j + c) / 16 ≡ j / 2 = omega (arith, column) in
        let rest : (8 * j + c) % 16 ≡ 8 * (j % 2) + c = omega (arith, column) in
        let y : ℕ = slice_index (slice_index_or (slice_index_or block (j / 2) []) (8 * (j % 2) + c) []) r in
        let same : entry_of block r (8 * j + c) ≡ y = λ i. slice_index (slice_index_or (slice_index_or block (tile i) []) (rest i) []) r in
        let y_low : y < 64 = subst (λ n. n < 64) same (entry_low 64 block r (8 * j + c) (omega arith) small) in
        let part : y / 16 < 4 = omega (arith, y_low) in
        let four : length (slice_range lines (4 * (j / 2)) (4 * (j / 2) + 4)) ≡ 4 = length_range lines (4 * (j / 2)) 4 (omega (arith, below, within, long)) in
        let room : 4 * ((8 * j + c) / 16) + 4 ≤ length lines = omega (arith, below, within, long, tile) in
        ap (λ (l : List ℕ). slice_index l (y % 16))
        (get_or-map (λ (t : List (List ℕ)). slice_index_or t (8 * (j % 2) + c) []) (slice_range lines (4 * (j / 2)) (4 * (j / 2) + 4)) (y / 16) [] [] (omega (arith, four, part))
        ∙ ap (λ (t : List (List ℕ)). slice_index_or t (8 * (j % 2) + c) []) (range_index lines (4 * (j / 2)) 4 (y / 16) [] part))
        ∙ subst (λ (q : (ℕ × ℕ) × ℕ). slice_index (slice_index_or (slice_index_or lines (4 * q.0.0 + q.1 / 16) []) q.0.1 []) (q.1 % 16) ≡ f (8 * j + c) (entry_of block r (8 * j + c)))
        (λ i. ((tile i, rest i), same i))
        (are.values (8 * j + c) (entry_of block r (8 * j + c)) room (entry_low 64 block r (8 * j + c) (omega arith) small))

pub lines_low : (in_bytes : Bool) (f : ℕ → ℕ → ℕ) (lines : List (List (List ℕ))) → AreLinesOf in_bytes f lines → (x y : ℕ) → f x y < limit in_bytes
lines_low true f lines are = are.below
lines_low false f lines are = are.below

-- the place of a coordinate: in which word, and which of its digits
pub record IsPlaced (in_bytes : Bool) (words x : ℕ) : Type 0 where
  pub word : ℕ
  pub digit : ℕ
  pub within : word < words
  pub below : digit < digits in_bytes
  pub whole : digits in_bytes * word + digit ≡ x

placed : (in_bytes : Bool) (words x : ℕ) → x < digits in_bytes * words → IsPlaced in_bytes words x
placed true words x low = record { word = x / 8; digit = x % 8; within = omega (arith, low); below = omega arith; whole = omega arith }
placed false words x low = record { word = x / 16; digit = x % 16; within = omega (arith, low); below = omega arith; whole = omega arith }

pub words_wide : (in_bytes : Bool) (width words : ℕ) → words ≡ words_for in_bytes width → width ≤ digits in_bytes * words
words_wide true width words is = (let d = (div_ceil_times width 8 (omega arith)).0 in omega (arith, d, is))
words_wide false width words is = (let d = (div_ceil_times width 16 (omega arith)).0 in omega (arith, d, is))

module _ (in_bytes : Bool) (f : ℕ → ℕ → ℕ) (block other : List (List (List ℕ))) (values : List (List ℕ)) (words r lane : ℕ)
    (f_low : (x y : ℕ) → f x y < limit in_bytes) (values_long : length values ≡ words) (other_low : AreBelow (limit in_bytes) other) (are : AreDigits in_bytes f block values) (low : r < 16)
    (key : (j : ℕ) → j < words → slice_index (key_of in_bytes words other lane) j ≡ slice_index (slice_index_or values j []) r) where
  abbrev looked : ℕ → ℕ → ℕ
  looked j c = f (digits in_bytes * j + c) (entry_of block r (digits in_bytes * j + c))

  abbrev there : ℕ → ℕ → ℕ
  there j c = entry_of other lane (digits in_bytes * j + c)

  to_base : (n : ℕ) → n < limit in_bytes → n < base in_bytes
  to_base n less = (let l = limit_base in_bytes in omega (arith, less, l))

  word_is : (j : ℕ) → j < words → number_l (base in_bytes) (map (there j) (range_with_len 0 (digits in_bytes))) ≡ number_l (base in_bytes) (map (looked j) (range_with_len 0 (digits in_bytes)))
  word_is j below =
      sym (get_or-map-range_with_len (λ k. word_of (base in_bytes) (digits in_bytes) other lane (digits in_bytes * k)) 0 words j j 0 below (omega arith))
      ∙ key j below ∙ are j r (omega (arith, below, values_long)) low

  lane_is : (j : ℕ) → j < words → map (there j) (range_with_len 0 (digits in_bytes)) ≡ map (looked j) (range_with_len 0 (digits in_bytes))
  lane_is j below =
      same_digits (base in_bytes) (map (there j) (range_with_len 0 (digits in_bytes))) (map (looked j) (range_with_len 0 (digits in_bytes)))
      (length-map-range_with_len (there j) 0 (digits in_bytes) ∙ sym (length-map-range_with_len (looked j) 0 (digits in_bytes)))
      (all_map_range (λ x. x < base in_bytes) (there j) 0 (digits in_bytes) (λ c. to_base (there j c) (entry_low (limit in_bytes) other lane (digits in_bytes * j + c) (some_limit in_bytes) other_low)))
      (all_map_range (λ x. x < base in_bytes) (looked j) 0 (digits in_bytes) (λ c. to_base (looked j c) (f_low (digits in_bytes * j + c) (entry_of block r (digits in_bytes * j + c)))))
      (word_is j below)

  pub entry_known : (x : ℕ) → x < digits in_bytes * words → entry_of other lane x ≡ f x (entry_of block r x)
  entry_known x within =
      let p = placed in_bytes words x within in
      subst (λ n. entry_of other lane n ≡ f n (entry_of block r n)) p.whole
      (sym (get_or-map-range_with_len (there p.word) 0 (digits in_bytes) p.digit p.digit 0 p.below (omega arith))
      ∙ ap (λ (l : List ℕ). slice_index l p.digit) (lane_is p.word p.within)
      ∙ get_or-map-range_with_len (looked p.word) 0 (digits in_bytes) p.digit p.digit 0 p.below (omega arith))

pub block_low : (n : ℕ) (tiles : List (List (List ℕ))) (parts b : ℕ) → AreBelow n tiles → AreBelow n (block_of tiles parts b)
block_low n tiles parts b low =
    let P = AllByRecursion (AllByRecursion (λ x. x < n)) in
    all_take P (b * parts + parts - b * parts) (drop (b * parts) tiles) (all_drop P tiles (b * parts) low)

module _ (width : ℕ) (in_bytes : Bool) (parts words count blocks : ℕ) (tiles : List (List (List ℕ))) (keys : Vec ℕ Global) (key front : List ℕ)
    (ready : Bool) (h : AreColumns width in_bytes parts words count blocks tiles keys key front ready) where
  pub vector_at : (i : ℕ) → i < count → slice_index_or (vectors_in width tiles count) i [] ≡ vector_in width tiles i
  vector_at i low = get_or-map-range_with_len (vector_in width tiles) 0 count i i [] low (omega arith)

  pub entry_at : (i x : ℕ) → i < count → x < width → slice_index (slice_index_or (vectors_in width tiles count) i []) x ≡ entry_of (block_of tiles (tiles_for width) (i / 16)) (i % 16) x
  entry_at i x low within =
      ap (λ (v : Vector). slice_index v x) (vector_at i low)
      ∙ get_or-map-range_with_len (entry_of (block_of tiles (tiles_for width) (i / 16)) (i % 16)) 0 width x x 0 within (omega arith)

  pub whole_at : (i : ℕ) → i < count → i / 16 * parts + parts ≤ length tiles
  whole_at i low = block_whole parts i blocks (length tiles) (let w = h.within in omega (arith, low, w)) h.whole

  -- the values of lines at a vector, whose words are the key of another: they are that one
  pub known_vector : (f : ℕ → ℕ → ℕ) (lines : List (List (List ℕ))) (values : List (List ℕ)) (b r g : ℕ) → AreLinesOf in_bytes f lines → length values ≡ words
      → AreDigits in_bytes f (block_of tiles parts b) values → r < 16 → 16 * b + r < count → g < count → IsKeyAt keys.items words g values r
      → Contains (vectors_in width tiles count) (values_at f (slice_index_or (vectors_in width tiles count) (16 * b + r) []))
  known_vector f lines values b r g are values_long are_digits low within named row =
      (g, omega (arith, named, all), ap (λ (n : ℕ). get_or (vectors_in width tiles count) n (values_at f v)) refl ∙ same)
    where
      all : length (vectors_in width tiles count) ≡ count
      all = length-map-range_with_len (vector_in width tiles) 0 count

      v : Vector
      v = slice_index_or (vectors_in width tiles count) (16 * b + r) []

      long : length v ≡ width
      long = ap (length {A = ℕ}) (vector_at (16 * b + r) within) ∙ length-map-range_with_len _ 0 width

      place : (16 * b + r) / 16 ≡ b
      place = omega (arith, low)

      lane : (16 * b + r) % 16 ≡ r
      lane = omega (arith, low)

      known : (x : ℕ) → x < digits in_bytes * words → entry_of (block_of tiles parts (g / 16)) (g % 16) x ≡ f x (entry_of (block_of tiles parts b) r x)
      known = entry_known in_bytes f (block_of tiles parts b) (block_of tiles parts (g / 16)) values words r (g % 16) (lines_low in_bytes f lines are) values_long
          (block_low (limit in_bytes) tiles parts (g / 16) h.low) are_digits low
          (λ j below. sym (ap (λ (k : List ℕ). slice_index k j) (h.keys_are g named)) ∙ row j below)

      wide : width ≤ digits in_bytes * words
      wide = words_wide in_bytes width words h.words_are

      same : get_or (vectors_in width tiles count) g (values_at f v) ≡ values_at f v
      same =
          get_or-map-range_with_len (vector_in width tiles) 0 count g g (values_at f v) named (omega arith)
          ∙ map_range_same (entry_of (block_of tiles (tiles_for width) (g / 16)) (g % 16)) (λ x. f x (slice_index v x)) 0 width
          (λ x below.
          ap (λ w. entry_of (block_of tiles w (g / 16)) (g % 16) (0 + x)) (sym h.parts_are) ∙ known (0 + x) (omega (arith, below, wide))
          ∙ ap (f (0 + x)) (sym (entry_at (16 * b + r) (0 + x) within (omega (arith, below))
          ∙ (λ i. entry_of (block_of tiles (sym h.parts_are i) (place i)) (lane i) (0 + x)))))
          ∙ sym (ap (λ n. map (λ x. f x (slice_index v x)) (range_with_len 0 n)) long)
