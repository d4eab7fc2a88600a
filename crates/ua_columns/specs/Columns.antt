-- Vectors with entries below sixteen or sixty-four, sixteen side by side: a tile has sixteen of their coordinates, each a column, and a block as many tiles as their width needs. An entry takes half a byte of a word, or a byte.
use Rattle.std.specs.Prelude.{◌≡◌, ℕ, ◌+◌, ◌-◌, ◌*◌, ◌/◌, ◌%◌, ◌^◌, ◌<◌, ◌≤◌, Bool, true, false, if◌then◌else◌, IsTrue, List, [], length, map, slice_index, slice_index_or, slice_range, Contains, Vec, vec_len, vec_capacity}
use Rattle.std.specs.List.{AllByRecursion, range_with_len}
use Rattle.std.specs.Int.{div_ceil}
use Rattle.std.specs.Simd.Lanes.{number_l}
use Rattle.std.specs.declared.alloc.Global.{Global}
use Rattle.ua_table.specs.Algebras.{Vector}
use Rattle.ua_columns.specs.Tiles.{key_at}

-- the width, whether an entry takes a byte of a word and not half of one, the vectors in order, and for how many more there is room at least
pub record VectorColumns : Type 0 where
  pub width : ℕ
  pub in_bytes : Bool
  pub items : List Vector
  pub spare : ℕ

-- a number that no entry reaches
abbrev pub limit : Bool → ℕ
limit in_bytes = if in_bytes then 64 else 16

-- how many entries a word holds
abbrev pub digits : Bool → ℕ
digits in_bytes = if in_bytes then 8 else 16

-- to what base the entries are the digits of a word
abbrev pub base : Bool → ℕ
base in_bytes = if in_bytes then 256 else 16

-- how many tiles the lines of sixteen coordinates take
abbrev pub tables : Bool → ℕ
tables in_bytes = if in_bytes then 4 else 1

-- every number in these tiles is below n
abbrev pub AreBelow : ℕ → List (List (List ℕ)) → Type 0
AreBelow n tiles = AllByRecursion (AllByRecursion (AllByRecursion (λ x. x < n))) tiles

-- entry x of a lane of a block
abbrev pub entry_of : List (List (List ℕ)) → ℕ → ℕ → ℕ
entry_of block lane x = slice_index (slice_index_or (slice_index_or block (x / 16) []) (x % 16) []) lane

-- so many entries of a lane of a block, from this one on, as digits to a base
abbrev pub word_of : ℕ → ℕ → List (List (List ℕ)) → ℕ → ℕ → ℕ
word_of base count block lane first = number_l base (map (λ c. entry_of block lane (first + c)) (range_with_len 0 count))

-- so many words of a lane of a block
abbrev pub key_of : Bool → ℕ → List (List (List ℕ)) → ℕ → List ℕ
key_of in_bytes words block lane = map (λ j. word_of (base in_bytes) (digits in_bytes) block lane (digits in_bytes * j)) (range_with_len 0 words)

-- how many tiles hold so many coordinates
abbrev pub tiles_for : ℕ → ℕ
tiles_for width = div_ceil width 16

-- how many words hold so many entries
abbrev pub words_for : Bool → ℕ → ℕ
words_for in_bytes width = div_ceil width (digits in_bytes)

-- block b of some tiles
abbrev pub block_of : List (List (List ℕ)) → ℕ → ℕ → List (List (List ℕ))
block_of tiles parts b = slice_range tiles (b * parts) (b * parts + parts)

-- vector i of this width
abbrev pub vector_in : ℕ → List (List (List ℕ)) → ℕ → Vector
vector_in width tiles i = map (entry_of (block_of tiles (tiles_for width) (i / 16)) (i % 16)) (range_with_len 0 width)

-- the first vectors, so many
abbrev pub vectors_in : ℕ → List (List (List ℕ)) → ℕ → List Vector
vectors_in width tiles count = map (vector_in width tiles) (range_with_len 0 count)

-- one more vector can be pushed without memory
pub record HasRoom (words count blocks : ℕ) (keys : Vec ℕ Global) : Type 0 where
  pub few : count + 1 < 2 ^ 32
  pub block : count < 16 * blocks
  pub key : vec_len keys + words ≤ vec_capacity keys

-- the tiles have whole blocks, with room for the vectors; the keys are the words of each vector; the front names vectors
pub record AreColumns (width : ℕ) (in_bytes : Bool) (parts words count blocks : ℕ) (tiles : List (List (List ℕ))) (keys : Vec ℕ Global) (key front : List ℕ) (ready : Bool) : Type 0 where
  pub narrow : width < 2 ^ 32
  pub parts_are : parts ≡ tiles_for width
  pub words_are : words ≡ words_for in_bytes width
  pub low : AreBelow (limit in_bytes) tiles
  pub whole : blocks * parts ≤ length tiles
  pub within : count ≤ 16 * blocks
  pub tight : 16 * blocks ≤ count + 16
  pub few : count < 2 ^ 32
  pub keyed : length keys.items ≡ count * words
  pub keys_are : (i : ℕ) → i < count → key_at keys.items words i ≡ key_of in_bytes words (block_of tiles parts (i / 16)) (i % 16)
  pub key_long : length key ≡ words
  pub some : 0 < length front
  pub named : AllByRecursion (λ r. r ≤ count - 1) front
  pub room : IsTrue ready → HasRoom words count blocks keys

-- lines of values below sixteen: at each coordinate the value of each element, those of odd coordinates times sixteen
pub record AreLines (f : ℕ → ℕ → ℕ) (lines : List (List (List ℕ))) : Type 0 where
  pub below : (x y : ℕ) → f x y < 16
  pub scaled : (x y : ℕ) → x < 16 * length lines → y < 16 → entry_of lines y x ≡ 16 ^ (x % 2) * f x y

-- lines of values below sixty-four: of sixteen coordinates each of four tiles has the values of sixteen elements
pub record AreByteLines (f : ℕ → ℕ → ℕ) (lines : List (List (List ℕ))) : Type 0 where
  pub below : (x y : ℕ) → f x y < 64
  pub values : (x y : ℕ) → 4 * (x / 16) + 4 ≤ length lines → y < 64 → slice_index (slice_index_or (slice_index_or lines (4 * (x / 16) + y / 16) []) (x % 16) []) (y % 16) ≡ f x y

-- the lines of values, in the form that goes with the entries
abbrev pub AreLinesOf : Bool → (ℕ → ℕ → ℕ) → List (List (List ℕ)) → Type 0
AreLinesOf true f lines = AreByteLines f lines
AreLinesOf false f lines = AreLines f lines

-- the values at the entries of a vector
abbrev pub values_at : (ℕ → ℕ → ℕ) → Vector → Vector
values_at f v = map (λ x. f x (slice_index v x)) (range_with_len 0 (length v))

-- each bit that is set is that of a vector of a block of sixteen, at which the values are a vector that is there
abbrev pub AreKnown : List Vector → (ℕ → ℕ → ℕ) → ℕ → ℕ → Type 0
AreKnown items f block bits =
    (r : ℕ) → r < 16 → bits / 2 ^ r % 2 ≡ 1 → (16 * block + r < length items) × Contains items (values_at f (slice_index_or items (16 * block + r) []))
