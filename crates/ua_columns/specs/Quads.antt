-- Vectors by words of four entries each, for algebras of any size.
use Rattle.std.specs.Prelude.{◌≡◌, ℕ, ◌+◌, ◌-◌, ◌*◌, ◌/◌, ◌%◌, ◌^◌, ◌<◌, ◌≤◌, Bool, IsTrue, List, length, map, slice_index, Vec, vec_len, vec_capacity}
use Rattle.std.specs.List.{AllByRecursion, range_with_len}
use Rattle.std.specs.declared.alloc.Global.{Global}
use Rattle.ua_table.specs.Algebras.{Vector}
use Rattle.ua_rows.specs.Words.{lanes_of, words_for}

-- the width, a size that no entry reaches, the vectors in order, and for how many more there is room at least
pub record QuadVectors : Type 0 where
  pub width : ℕ
  pub size : ℕ
  pub items : List Vector
  pub spare : ℕ

-- each entry of a word is below a size
abbrev pub IsBelow : ℕ → ℕ → Type 0
IsBelow size word = AllByRecursion (λ x. x < size) (lanes_of word)

-- entry x of key i, of some keys of so many words each, end to end
abbrev pub quad_entry : List ℕ → ℕ → ℕ → ℕ → ℕ
quad_entry keys words i x = slice_index (lanes_of (slice_index keys (i * words + x / 4))) (x % 4)

-- vector i of this width
abbrev pub quad_vector : ℕ → List ℕ → ℕ → Vector
quad_vector width keys i = map (quad_entry keys (words_for width) i) (range_with_len 0 width)

-- the first vectors, so many
abbrev pub quad_vectors : ℕ → List ℕ → ℕ → List Vector
quad_vectors width keys count = map (quad_vector width keys) (range_with_len 0 count)

-- one more vector can be pushed without memory
pub record HasQuadRoom (words count : ℕ) (keys : Vec ℕ Global) : Type 0 where
  pub few : count + 1 < 2 ^ 32
  pub key : vec_len keys + words ≤ vec_capacity keys

-- there are the words of each vector, whose entries are below the size; the front names vectors
pub record AreQuads (width size words count : ℕ) (keys : Vec ℕ Global) (key front : List ℕ) (ready : Bool) : Type 0 where
  pub some_size : 0 < size
  pub words_are : words ≡ words_for width
  pub few : count < 2 ^ 32
  pub keyed : length keys.items ≡ count * words
  pub below : AllByRecursion (IsBelow size) keys.items
  pub key_long : length key ≡ words
  pub some : 0 < length front
  pub named : AllByRecursion (λ r. r ≤ count - 1) front
  pub room : IsTrue ready → HasQuadRoom words count keys

-- lines of a size, end to end: at each coordinate below the width the value at each element below the size there
abbrev pub AreLongLines : ℕ → ℕ → (ℕ → ℕ → ℕ) → List ℕ → Type 0
AreLongLines size width f lines = (x y : ℕ) → x < width → y < size → slice_index lines (x * size + y) ≡ f x y
