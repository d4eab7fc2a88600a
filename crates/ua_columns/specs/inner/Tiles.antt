-- The bytes and words of tiles, and the values looked up in them.
use Rattle.std.specs.Prelude.{◌≡◌, ℕ, ◌+◌, ◌*◌, ◌/◌, ◌%◌, ◌<◌, List, [], ◌∷◌, ◌++◌, length, map, slice_index, slice_index_or, slice_range}
use Rattle.std.specs.List.{AllByRecursion, range_with_len}
use Rattle.std.specs.Simd.Lanes.{number_l, pick_l}
use Rattle.ua_columns.specs.Tiles.{key_at}

-- sixteen bytes
abbrev pub AreBytes : List ℕ → Type 0
AreBytes v = (length v ≡ 16) × AllByRecursion (λ x. x < 256) v

-- the bytes of two vectors by turns: those of their first halves, and those of their second
abbrev pub first_by_turns : List ℕ → List ℕ → List ℕ
first_by_turns a b = pick_l 0 (a ++ b) (0 ∷ 16 ∷ 1 ∷ 17 ∷ 2 ∷ 18 ∷ 3 ∷ 19 ∷ 4 ∷ 20 ∷ 5 ∷ 21 ∷ 6 ∷ 22 ∷ 7 ∷ 23 ∷ [])

abbrev pub second_by_turns : List ℕ → List ℕ → List ℕ
second_by_turns a b = pick_l 0 (a ++ b) (8 ∷ 24 ∷ 9 ∷ 25 ∷ 10 ∷ 26 ∷ 11 ∷ 27 ∷ 12 ∷ 28 ∷ 13 ∷ 29 ∷ 14 ∷ 30 ∷ 15 ∷ 31 ∷ [])

-- the word whose bytes are byte r of each of some vectors
abbrev pub word_across : List (List ℕ) → ℕ → ℕ
word_across columns r = number_l 256 (map (λ (v : List ℕ). slice_index v r) columns)

-- the value of the line of coordinate c at the entry of lane r there
abbrev pub looked_at : List (List ℕ) → List (List ℕ) → ℕ → ℕ → ℕ
looked_at lines columns r c = slice_index (slice_index_or lines c []) (slice_index (slice_index_or columns c []) r)

-- the sum of the values at coordinate c and the next, as a byte
abbrev pub byte_at : List (List ℕ) → List (List ℕ) → ℕ → ℕ → ℕ
byte_at lines columns r c = (looked_at lines columns r c + looked_at lines columns r (c + 1)) % 256

-- the word of lane r: a byte for each two coordinates
abbrev pub word_at : List (List ℕ) → List (List ℕ) → ℕ → ℕ
word_at lines columns r = number_l 256 (map (byte_at lines columns r) (0 ∷ 2 ∷ 4 ∷ 6 ∷ 8 ∷ 10 ∷ 12 ∷ 14 ∷ []))

-- the value of a line of up to sixty-four numbers, of which each of some tables has sixteen
abbrev pub value_across : List (List ℕ) → ℕ → ℕ
value_across tables y = slice_index (slice_index_or tables (y / 16) []) (y % 16)

-- the value of the line of coordinate c at the entry of lane r there, where each of four tiles has sixteen of its values
abbrev pub looked_across : List (List (List ℕ)) → List (List ℕ) → ℕ → ℕ → ℕ
looked_across lines columns r c = value_across (map (λ (tile : List (List ℕ)). slice_index_or tile c []) lines) (slice_index (slice_index_or columns c []) r)

-- the word of lane r: a byte for each of eight coordinates, from this one on
abbrev pub byte_word_at : List (List (List ℕ)) → List (List ℕ) → ℕ → ℕ → ℕ
byte_word_at lines columns first r = number_l 256 (map (λ c. looked_across lines columns r (first + c)) (range_with_len 0 8))

-- what the words of a block's values are: in each place one for each lane
abbrev pub AreWords : List (List (List ℕ)) → List (List (List ℕ)) → List (List ℕ) → Type 0
AreWords lines block values = (j : ℕ) → j < length values → slice_index_or values j [] ≡ map (word_at (slice_index_or lines j []) (slice_index_or block j [])) (range_with_len 0 16)

-- the same where a word has a byte for each of eight coordinates
abbrev pub AreByteWords : List (List (List ℕ)) → List (List (List ℕ)) → List (List ℕ) → Type 0
AreByteWords lines block values = (j : ℕ) → j < length values → slice_index_or values j [] ≡ map (byte_word_at (slice_range lines (4 * (j / 2)) (4 * (j / 2) + 4)) (slice_index_or block (j / 2) []) (8 * (j % 2))) (range_with_len 0 16)

-- key i has the words of a lane
abbrev pub IsKeyAt : List ℕ → ℕ → ℕ → List (List ℕ) → ℕ → Type 0
IsKeyAt keys words i values lane = (j : ℕ) → j < words → slice_index (key_at keys words i) j ≡ slice_index (slice_index_or values j []) lane

-- one of so many keys has the words of a lane
abbrev pub IsSomeKeyAt : List ℕ → ℕ → ℕ → List (List ℕ) → ℕ → Type 0
IsSomeKeyAt keys words count values lane = (i : ℕ) × (i < count) × IsKeyAt keys words i values lane
