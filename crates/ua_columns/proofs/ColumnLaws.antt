-- Vectors in columns: what a tile, a block and a key say of them.
use Rattle.std.proofs.Common.{◌≡◌, ◌≢◌, ℕ, ◌+◌, ◌-◌, ◌*◌, ◌/◌, ◌%◌, ◌<◌, ◌≤◌, Bool, true, false, List, [], ◌++◌, length, map, take, drop, Vec, sym, ap, ◌∙◌, arith, ⊎_elim}
use Rattle.std.specs.Prelude.{slice_index_or, slice_range, IsTrue}
use Rattle.std.specs.List.{AllByRecursion, range_with_len}
use Rattle.std.specs.Simd.Lanes.{number_l}
use Rattle.std.specs.declared.alloc.Global.{Global}
use Rattle.std.proofs.Math.Nat.{mul-le-mul_right}
use Rattle.std.proofs.lemmas.Grind.{div_ceil_times}
use Rattle.std.proofs.lemmas.List.{take-append-drop}
use Rattle.ua_columns.specs.Tiles.{key_at}
use Rattle.ua_columns.specs.Columns.{limit, digits, base, AreBelow, entry_of, word_of, key_of, tiles_for, words_for, block_of, vector_in, vectors_in, HasRoom, AreColumns}
use Rattle.std.proofs.lemmas.Bool.{cases_lt}
use borrow.Rule.Slice.PartMut.{put_mid}
use Rattle.ua_rows.proofs.LineLaws.{all_or}
use Rattle.ua_columns.proofs.ListLaws.{all_map_range, map_range_same, range_before, range_put, range_put_before, range_put_after}

-- ---- entries

-- an entry of a block is as low as all of them
pub entry_low : (n : ℕ) (block : List (List (List ℕ))) (lane x : ℕ) → 0 < n → AreBelow n block → entry_of block lane x < n
entry_low n block lane x some all =
    all_or (λ y. y < n) (slice_index_or (slice_index_or block (x / 16) []) (x % 16) []) lane 0 some
    (all_or (AllByRecursion (λ y. y < n)) (slice_index_or block (x / 16) []) (x % 16) [] tt
    (all_or (AllByRecursion (AllByRecursion (λ y. y < n))) block (x / 16) [] tt all))

-- the entries that a word holds, and that they are digits to its base
pub entries_low : (n : ℕ) (block : List (List (List ℕ))) (lane first count : ℕ) → 0 < n → AreBelow n block → AllByRecursion (λ y. y < n) (map (λ c. entry_of block lane (first + c)) (range_with_len 0 count))
entries_low n block lane first count some all = all_map_range (λ y. y < n) (λ c. entry_of block lane (first + c)) 0 count (λ c. entry_low n block lane (first + c) some all)

pub some_limit : (in_bytes : Bool) → 0 < limit in_bytes
some_limit true = omega arith
some_limit false = omega arith

pub limit_base : (in_bytes : Bool) → limit in_bytes ≤ base in_bytes
limit_base true = omega arith
limit_base false = omega arith

pub limit_byte : (in_bytes : Bool) → limit in_bytes ≤ 256
limit_byte true = omega arith
limit_byte false = omega arith

-- words are within the tiles
pub words_within : (in_bytes : Bool) (width parts words : ℕ) → parts ≡ tiles_for width → words ≡ words_for in_bytes width → digits in_bytes * words ≤ 16 * parts
words_within true width parts words is are =
    let p = div_ceil_times width 16 (omega arith) in
    let w = div_ceil_times width 8 (omega arith) in
    omega (arith, p, w, is, are)
words_within false width parts words is are = omega (arith, is, are)

-- a lane with the same entries has the same words
pub key_same : (in_bytes : Bool) (words : ℕ) (one other : List (List (List ℕ))) (r : ℕ) → ((x : ℕ) → entry_of one r x ≡ entry_of other r x) → key_of in_bytes words one r ≡ key_of in_bytes words other r
key_same in_bytes words one other r same =
    map_range_same (λ j. word_of (base in_bytes) (digits in_bytes) one r (digits in_bytes * j)) (λ j. word_of (base in_bytes) (digits in_bytes) other r (digits in_bytes * j)) 0 words
    (λ j low.
    ap (number_l (base in_bytes))
    (map_range_same (λ c. entry_of one r (digits in_bytes * (0 + j) + c)) (λ c. entry_of other r (digits in_bytes * (0 + j) + c)) 0
    (digits in_bytes) (λ c small. same (digits in_bytes * (0 + j) + (0 + c)))))

-- ---- blocks

-- a block of tiles that go on
pub block_same : (tiles more : List (List (List ℕ))) (parts blocks b : ℕ) → b < blocks → blocks * parts ≤ length tiles → take (length tiles) more ≡ tiles → block_of more parts b ≡ block_of tiles parts b
block_same tiles more parts blocks b low whole front =
    let whole' : (b + 1) * parts ≤ blocks * parts = mul-le-mul_right parts (let l : b + 1 ≤ blocks = omega (arith, low) in l) in
    let within : b * parts + parts ≤ length tiles = (let e : (b + 1) * parts ≡ b * parts + parts = omega arith in omega (arith, e, whole', whole)) in
    let split : more ≡ tiles ++ drop (length tiles) more = sym (take-append-drop (length tiles) more) ∙ ap (λ (t : List (List (List ℕ))). t ++ drop (length tiles) more) front in
    ap (λ (t : List (List (List ℕ))). slice_range t (b * parts) (b * parts + parts)) split ∙ range_before tiles (drop (length tiles) more) (b * parts) (b * parts + parts) (omega arith) within

block_of_row : (i count blocks : ℕ) → i < count → count ≤ 16 * blocks → i / 16 < blocks
block_of_row i count blocks low within = omega (arith, low, within)

pub vectors_same : (width : ℕ) (tiles more : List (List (List ℕ))) (count blocks : ℕ) → count ≤ 16 * blocks → blocks * tiles_for width ≤ length tiles
    → take (length tiles) more ≡ tiles → vectors_in width more count ≡ vectors_in width tiles count
vectors_same width tiles more count blocks within whole front =
    map_range_same (vector_in width more) (vector_in width tiles) 0 count
    (λ i low. ap (λ (block : List (List (List ℕ))). map (entry_of block ((0 + i) % 16)) (range_with_len 0 width))
    (block_same tiles more (tiles_for width) blocks ((0 + i) / 16) (let e : 0 + i < count = omega (arith, low) in block_of_row (0 + i) count blocks e within) whole front))

-- room was made: tiles and blocks, keys with another capacity, another front
pub columns_roomy : (width : ℕ) (in_bytes : Bool) (parts words count blocks : ℕ) (tiles : List (List (List ℕ))) (keys : Vec ℕ Global)
    (key front : List ℕ) (ready : Bool)
    → AreColumns width in_bytes parts words count blocks tiles keys key front ready
    → (blocks' : ℕ) (more : List (List (List ℕ))) (keys' : Vec ℕ Global) (front' : List ℕ) (ready' : Bool)
    → take (length tiles) more ≡ tiles → ((n : ℕ) → 0 < n → AreBelow n tiles → AreBelow n more) → blocks' * parts ≤ length more → count ≤ 16 * blocks' → 16 * blocks' ≤ count + 16
    → keys'.items ≡ keys.items → 0 < length front' → AllByRecursion (λ r. r ≤ count - 1) front' → (IsTrue ready' → HasRoom words count blocks' keys')
    → AreColumns width in_bytes parts words count blocks' more keys' key front' ready'
columns_roomy width in_bytes parts words count blocks tiles keys key front ready h blocks' more keys' front' ready' tiles_front low whole within tight same some named room = record {
  narrow = h.narrow;
  parts_are = h.parts_are;
  words_are = h.words_are;
  low = low (limit in_bytes) (some_limit in_bytes) h.low;
  whole = whole;
  within = within;
  tight = tight;
  few = h.few;
  keyed = ap (length {A = ℕ}) same ∙ h.keyed;
  keys_are = λ i less.
      ap (λ (ks : List ℕ). key_at ks words i) same ∙ h.keys_are i less
      ∙ sym (ap (λ (block : List (List (List ℕ))). key_of in_bytes words block (i % 16)) (block_same tiles more parts blocks (i / 16) (block_of_row i count blocks less h.within) h.whole tiles_front));
  key_long = h.key_long;
  some = some;
  named = named;
  room = room;
}

-- ---- a block that was written

pub block_put : (tiles block : List (List (List ℕ))) (parts b n : ℕ) → n ≡ parts → length block ≡ parts → b * parts + parts ≤ length tiles → block_of (put_mid (b * parts) n tiles block) parts b ≡ block
block_put tiles block parts b n is long within =
    ap (λ k. block_of (put_mid (b * parts) k tiles block) parts b) is ∙ range_put tiles block (b * parts) parts long within

pub block_put_other : (tiles block : List (List (List ℕ))) (parts b n k : ℕ) → n ≡ parts → length block ≡ parts → b * parts + parts ≤ length tiles → k ≢ b → block_of (put_mid (b * parts) n tiles block) parts k ≡ block_of tiles parts k
block_put_other tiles block parts b n k is long within apart =
    ap (λ m. block_of (put_mid (b * parts) m tiles block) parts k) is ∙ ⊎_elim
    (λ before.
    let e : (k + 1) * parts ≡ k * parts + parts = omega arith in
    let m : (k + 1) * parts ≤ b * parts = mul-le-mul_right parts (let l : k + 1 ≤ b = omega (arith, before) in l) in
    range_put_before tiles block (b * parts) parts (k * parts) parts within (omega (arith, e, m)))
    (λ after.
    let e : (b + 1) * parts ≡ b * parts + parts = omega arith in
    let m : (b + 1) * parts ≤ k * parts = mul-le-mul_right parts (let l : b + 1 ≤ k = omega (arith, after, apart) in l) in
    range_put_after tiles block (b * parts) parts (k * parts) parts long within (omega (arith, e, m)))
    (cases_lt k b)
