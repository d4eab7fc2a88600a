-- Vectors in words of four entries: what the words say of them, with one more, and of the values of lines.
use Rattle.std.proofs.Common.{◌≡◌, ℕ, suc, ◌+◌, ◌-◌, ◌*◌, ◌/◌, ◌%◌, ◌^◌, ◌<◌, ◌≤◌, Bool, false, List, [], ◌∷◌, ◌++◌, length, map, drop, get_or, Vec, refl, sym, ap, ◌∙◌, subst, arith}
use Rattle.std.specs.Prelude.{slice_index, slice_index_or, Contains}
use Rattle.std.specs.List.{AllByRecursion, range_with_len}
use Rattle.std.specs.declared.alloc.Global.{Global}
use Rattle.std.proofs.Math.Nat.{mul-le-mul_right}
use Rattle.std.proofs.lemmas.Grind.{same_number_lists, div_ceil_times}
use Rattle.std.proofs.lemmas.List.{length-append, get_or_append_left, get_or-append-add, get_or-drop, get_or-take}
use Rattle.std.proofs.lemmas.List.FromFn.{length-map-range_with_len, get_or-map-range_with_len, map-range_with_len_more}
use Rattle.ua_table.specs.Algebras.{Vector}
use Rattle.ua_rows.specs.Words.{lanes_of, words_for}
use Rattle.ua_columns.specs.Tiles.{key_at}
use Rattle.ua_columns.specs.Columns.{values_at}
use Rattle.ua_columns.specs.Quads.{IsBelow, quad_entry, quad_vector, quad_vectors, AreQuads, AreLongLines}
use Rattle.ua_columns.specs.inner.Quads.{values_in_word}
use Rattle.ua_rows.proofs.LineLaws.{all_or}
use Rattle.ua_table.proofs.Lists.{all_weaker, all_append, all_get_or}
use Rattle.ua_columns.proofs.ListLaws.{map_range_same}

-- ---- places

pub words_wide : (width words : ℕ) → words ≡ words_for width → width ≤ 4 * words
words_wide width words is = (let d = (div_ceil_times width 4 (omega arith)).0 in omega (arith, d, is))

pub spot : (width words count i x : ℕ) → words ≡ words_for width → i < count → x < width → i * words + x / 4 < count * words
spot width words count i x is low within =
    let wide = words_wide width words is in
    let m : (i + 1) * words ≤ count * words = mul-le-mul_right words (let l : i + 1 ≤ count = omega (arith, low) in l) in
    let e : (i + 1) * words ≡ i * words + words = omega arith in
    let part : x / 4 < words = omega (arith, within, wide) in
    omega (arith, m, e, part)

pub vector_at : (width : ℕ) (keys : List ℕ) (count i : ℕ) → i < count → slice_index_or (quad_vectors width keys count) i [] ≡ quad_vector width keys i
vector_at width keys count i low = get_or-map-range_with_len (quad_vector width keys) 0 count i i [] low (omega arith)

pub entry_at : (width : ℕ) (keys : List ℕ) (count i x : ℕ) → i < count → x < width → slice_index (slice_index_or (quad_vectors width keys count) i []) x ≡ quad_entry keys (words_for width) i x
entry_at width keys count i x low within =
    ap (λ (v : Vector). slice_index v x) (vector_at width keys count i low)
    ∙ get_or-map-range_with_len (quad_entry keys (words_for width) i) 0 width x x 0 within (omega arith)

pub key_index : (keys : List ℕ) (words i j : ℕ) → j < words → slice_index (key_at keys words i) j ≡ slice_index keys (i * words + j)
key_index keys words i j low =
    get_or-take (i * words + words - i * words) (drop (i * words) keys) j 0 (omega (arith, low)) ∙ get_or-drop (i * words) keys j 0

-- ---- one vector more

pub all_by_index : (P : ℕ → Type 0) (xs : List ℕ) → ((k : ℕ) → k < length xs → P (slice_index xs k)) → AllByRecursion P xs
all_by_index P [] each = tt
all_by_index P (x ∷ xs) each = (each 0 (omega arith), all_by_index P xs (λ k low. each (suc k) (omega (arith, low))))

-- the words of a vector with small entries have such entries
pub key_below : (v key : List ℕ) (size : ℕ) → 0 < size → AllByRecursion (λ x. x < size) v → ((j e : ℕ) → j < length key → e < 4 → slice_index (lanes_of (slice_index key j)) e ≡ slice_index v (4 * j + e)) → AllByRecursion (IsBelow size) key
key_below v key size some small entries =
    let low : (x : ℕ) → slice_index v x < size = λ x. all_or (λ y. y < size) v x 0 some small in
    all_by_index (IsBelow size) key
    (λ j within.
    let at : (e : ℕ) → e < 4 → slice_index (lanes_of (slice_index key j)) e < size = λ e few. subst (λ n. n < size) (sym (entries j e within few)) (low (4 * j + e)) in
    (at 0 (omega arith), (at 1 (omega arith), (at 2 (omega arith), (at 3 (omega arith), tt)))))

pub pushed_quads : (width words count : ℕ) (keys key : List ℕ) (v : Vector) → words ≡ words_for width → length keys ≡ count * words → length key ≡ words → length v ≡ width
    → ((j e : ℕ) → j < length key → e < 4 → slice_index (lanes_of (slice_index key j)) e ≡ slice_index v (4 * j + e))
    → quad_vectors width (keys ++ key) (count + 1) ≡ quad_vectors width keys count ++ v ∷ []
pushed_quads width words count keys key v is long one wide entries =
    map-range_with_len_more (quad_vector width (keys ++ key)) 0 count count (let z : 0 + count ≡ count = omega arith in z)
    ∙ (λ l. map_range_same (quad_vector width (keys ++ key)) (quad_vector width keys) 0 count before l ++ last l ∷ [])
  where
    before : (i : ℕ) → i < count → quad_vector width (keys ++ key) (0 + i) ≡ quad_vector width keys (0 + i)
    before i low =
        map_range_same (quad_entry (keys ++ key) (words_for width) (0 + i)) (quad_entry keys (words_for width) (0 + i)) 0 width
        (λ x within. ap (λ w. slice_index (lanes_of w) ((0 + x) % 4)) (get_or_append_left keys key 0 ((0 + i) * words_for width + (0 + x) / 4)
        (let s = spot width (words_for width) count (0 + i) (0 + x) refl (omega (arith, low)) (omega (arith, within)) in let w = ap (λ n. count * n) is in omega (arith, s, w, long))))

    last : quad_vector width (keys ++ key) count ≡ v
    last =
        let f = quad_entry (keys ++ key) (words_for width) count in
        let l = length-map-range_with_len f 0 width in
        same_number_lists (map f (range_with_len 0 width)) v (l ∙ sym wide)
        (λ x low.
        let below : x < width = omega (arith, low, l) in
        let part : x / 4 < length key = (let w = words_wide width words is in omega (arith, below, w, one)) in
        let place : count * words_for width + x / 4 ≡ length keys + x / 4 = (let w = ap (λ n. count * n) is in omega (arith, w, long)) in
        get_or-map-range_with_len f 0 width x x 0 below (omega arith)
        ∙ ap (λ w. slice_index (lanes_of w) (x % 4)) (ap (λ n. slice_index (keys ++ key) n) place ∙ get_or-append-add keys key (x / 4) 0)
        ∙ entries (x / 4) (x % 4) part (omega arith)
        ∙ ap (slice_index v) (let z : 4 * (x / 4) + x % 4 ≡ x = omega arith in z))

pub pushed_invariant : (width size words count : ℕ) (keys : Vec ℕ Global) (key front : List ℕ) (ready : Bool) → AreQuads width size words count keys key front ready
    → (v key' : List ℕ) (keys' : Vec ℕ Global) (front' : List ℕ) → 0 < length front' → AllByRecursion (λ r. r ≤ count) front' → count + 1 < 2 ^ 32 → AllByRecursion (λ x. x < size) v → length key' ≡ words → keys'.items ≡ keys.items ++ key'
    → ((j e : ℕ) → j < length key' → e < 4 → slice_index (lanes_of (slice_index key' j)) e ≡ slice_index v (4 * j + e))
    → AreQuads width size words (count + 1) keys' key' front' false
pushed_invariant width size words count keys key front ready h v key' keys' front' some named few small one keys_are entries = record {
  some_size = h.some_size;
  words_are = h.words_are;
  few = few;
  keyed = (let l = length-append keys.items key' in let k = h.keyed in let e = ap (length {A = ℕ}) keys_are in omega (arith, l, k, e, one));
  below = subst (AllByRecursion (IsBelow size)) (sym keys_are) (all_append (IsBelow size) keys.items key' h.below (key_below v key' size h.some_size small entries));
  key_long = one;
  some = some;
  named = all_weaker (λ r. r ≤ count) (λ r. r ≤ count + 1 - 1) (λ r low. omega (arith, low)) front' named;
  room = λ t. cc;
}

-- ---- the values of lines at a vector, whose words are a key: they are that vector

module _ (width size words count : ℕ) (keys lines : List ℕ) (f : ℕ → ℕ → ℕ) (block r g lanes : ℕ) (values part : List ℕ)
    (is : words ≡ words_for width) (long : length keys ≡ count * words) (some : 0 < size) (small : AllByRecursion (IsBelow size) keys) (are : AreLongLines size width f lines)
    (part_is : (k : ℕ) → k < lanes * words → slice_index part k ≡ slice_index keys (16 * block * words + k))
    (wrote : (q j : ℕ) → q < lanes → j < words → lanes_of (slice_index values (q * words + j)) ≡ values_in_word (drop (4 * size * j) lines) size (slice_index part (q * words + j)))
    (low : r < lanes) (within : 16 * block + lanes ≤ count) (named : g < count) (row : key_at keys words g ≡ key_at values words r) where
  abbrev i : ℕ
  i = 16 * block + r

  here : i < count
  here = omega (arith, low, within)

  entry_below : (x : ℕ) → x < width → quad_entry keys words (16 * block + r) x < size
  entry_below x inside =
      let s = spot width words count (16 * block + r) x is here inside in
      all_or (λ y. y < size) (lanes_of (slice_index keys ((16 * block + r) * words + x / 4))) (x % 4) 0 some (all_get_or (IsBelow size) keys ((16 * block + r) * words + x / 4) 0 (omega (arith, s, long)) small)

  entry_known : (x : ℕ) → x < width → quad_entry keys words g x ≡ f x (quad_entry keys words (16 * block + r) x)
  entry_known x inside =
      let j : ℕ = x / 4 in
      let e : ℕ = x % 4 in
      let wide = words_wide width words is in
      let below : x / 4 < words = omega (arith, inside, wide) in
      let column : x % 4 < 4 = omega arith in
      let m : (r + 1) * words ≤ lanes * words = mul-le-mul_right words (let l : r + 1 ≤ lanes = omega (arith, low) in l) in
      let m1 : (r + 1) * words ≡ r * words + words = omega arith in
      let spread : 16 * block * words + (r * words + x / 4) ≡ (16 * block + r) * words + x / 4 = search arith in
      let word : slice_index part (r * words + x / 4) ≡ slice_index keys ((16 * block + r) * words + x / 4) = part_is (r * words + x / 4) (omega (arith, m, m1, below)) ∙ ap (slice_index keys) spread in
      let y : ℕ = quad_entry keys words (16 * block + r) x in
      let x_is : 4 * (x / 4) + x % 4 ≡ x = omega arith in
      let place : 4 * size * (x / 4) + (x % 4 * size + y) ≡ (4 * (x / 4) + x % 4) * size + y = search arith in
      ap (λ w. slice_index (lanes_of w) (x % 4)) (sym (key_index keys words g (x / 4) below) ∙ ap (λ (k : List ℕ). slice_index k (x / 4)) row ∙ key_index values words r (x / 4) below)
      ∙ ap (λ (ls : List ℕ). slice_index ls (x % 4)) (wrote r (x / 4) low below)
      ∙ get_or-map-range_with_len (λ q. slice_index (drop (4 * size * (x / 4)) lines) (q * size + slice_index (lanes_of (slice_index part (r * words + x / 4))) q)) 0 4 (x % 4) (x % 4) 0 column (omega arith)
      ∙ get_or-drop (4 * size * (x / 4)) lines (x % 4 * size + slice_index (lanes_of (slice_index part (r * words + x / 4))) (x % 4)) 0
      ∙ ap (λ w. slice_index lines (4 * size * (x / 4) + (x % 4 * size + slice_index (lanes_of w) (x % 4)))) word
      ∙ ap (slice_index lines) (place ∙ ap (λ n. n * size + y) x_is)
      ∙ are x y inside (entry_below x inside)

  pub known_quads : Contains (quad_vectors width keys count) (values_at f (slice_index_or (quad_vectors width keys count) (16 * block + r) []))
  known_quads = (g, omega (arith, named, all), same)
    where
      all : length (quad_vectors width keys count) ≡ count
      all = length-map-range_with_len (quad_vector width keys) 0 count

      v : Vector
      v = slice_index_or (quad_vectors width keys count) (16 * block + r) []

      wide : length v ≡ width
      wide = ap (length {A = ℕ}) (vector_at width keys count (16 * block + r) here) ∙ length-map-range_with_len (quad_entry keys (words_for width) (16 * block + r)) 0 width

      same : get_or (quad_vectors width keys count) g (values_at f v) ≡ values_at f v
      same =
          get_or-map-range_with_len (quad_vector width keys) 0 count g g (values_at f v) named (omega arith)
          ∙ map_range_same (quad_entry keys (words_for width) g) (λ x. f x (slice_index v x)) 0 width
          (λ x below.
          let inside : 0 + x < width = omega (arith, below) in
          ap (λ w. quad_entry keys w g (0 + x)) (sym is) ∙ entry_known (0 + x) inside
          ∙ ap (f (0 + x)) (ap (λ w. quad_entry keys w (16 * block + r) (0 + x)) is ∙ sym (entry_at width keys count (16 * block + r) (0 + x) here inside)))
          ∙ sym (ap (λ n. map (λ x. f x (slice_index v x)) (range_with_len 0 n)) wide)
