-- Columns with one vector more.
use Rattle.std.proofs.Common.{◌≡◌, ◌≢◌, ℕ, ◌+◌, ◌-◌, ◌*◌, ◌/◌, ◌%◌, ◌^◌, ◌<◌, ◌≤◌, Bool, true, false, List, [], ◌∷◌, ◌++◌, length, map, take, drop, Vec, refl, sym, ap, ◌∙◌, subst, arith, ⊎_elim}
use Rattle.std.specs.Prelude.{slice_index, IsTrue}
use Rattle.std.specs.List.{AllByRecursion, range_with_len}
use Rattle.std.specs.declared.alloc.Global.{Global}
use Rattle.std.proofs.Math.Nat.{mul-le-mul_right}
use Rattle.std.proofs.Math.Seq.{drop-append_seam}
use Rattle.std.proofs.lemmas.Grind.{same_number_lists}
use Rattle.std.proofs.lemmas.Bool.{cases_lt, cases_eq}
use Rattle.std.proofs.lemmas.List.{length-append, take_all}
use Rattle.std.proofs.lemmas.List.FromFn.{length-map-range_with_len, get_or-map-range_with_len, map-range_with_len_more}
use Rattle.ua_table.specs.Algebras.{Vector}
use Rattle.ua_table.specs.Counting.{one_if}
use Rattle.ua_columns.specs.Tiles.{key_at}
use Rattle.ua_columns.specs.Columns.{limit, AreBelow, entry_of, key_of, tiles_for, block_of, vectors_in, AreColumns}
use Rattle.ua_table.proofs.Lists.{all_weaker}
use Rattle.ua_columns.proofs.ListLaws.{map_range_same, range_before}
use Rattle.ua_columns.proofs.ColumnLaws.{key_same}

-- a vector was written at the next lane: its entries stand there, and all others as before
pub record IsEntered (parts count : ℕ) (tiles more : List (List (List ℕ))) (v : Vector) : Type 0 where
  pub long : length more ≡ length tiles
  pub whole : count / 16 * parts + parts ≤ length tiles
  pub others : (b : ℕ) → b ≢ count / 16 → block_of more parts b ≡ block_of tiles parts b
  pub lane : (x : ℕ) → x < length v → entry_of (block_of more parts (count / 16)) (count % 16) x ≡ slice_index v x
  pub lanes : (r x : ℕ) → r ≢ count % 16 → entry_of (block_of more parts (count / 16)) r x ≡ entry_of (block_of tiles parts (count / 16)) r x

pub some_one : (b : Bool) → 0 < one_if b → IsTrue b
some_one true some = refl
some_one false some = absurd (omega (arith, some))

-- a block in which there is a lane is whole
pub block_whole : (parts count blocks long : ℕ) → count < 16 * blocks → blocks * parts ≤ long → count / 16 * parts + parts ≤ long
block_whole parts count blocks long room whole =
    let low : count / 16 + 1 ≤ blocks = omega (arith, room) in
    let m : (count / 16 + 1) * parts ≤ blocks * parts = mul-le-mul_right parts low in
    let e : (count / 16 + 1) * parts ≡ count / 16 * parts + parts = omega arith in
    omega (arith, m, e, whole)

module _ (parts count : ℕ) (tiles more : List (List (List ℕ))) (v : Vector) (h : IsEntered parts count tiles more v) where
  -- the vectors before it
  block_before : (i : ℕ) → i < count → i / 16 ≢ count / 16 → block_of more parts (i / 16) ≡ block_of tiles parts (i / 16)
  block_before i low apart = h.others (i / 16) apart

  entry_before : (i x : ℕ) → i < count → entry_of (block_of more parts (i / 16)) (i % 16) x ≡ entry_of (block_of tiles parts (i / 16)) (i % 16) x
  entry_before i x low = ⊎_elim
      (λ same.
      let lane : i % 16 ≢ count % 16 = λ e. omega (arith, e, same, low) in
      subst (λ b. entry_of (block_of more parts b) (i % 16) x ≡ entry_of (block_of tiles parts b) (i % 16) x) (sym same) (h.lanes (i % 16) x lane))
      (λ apart. ap (λ (b : List (List (List ℕ))). entry_of b (i % 16) x) (h.others (i / 16) apart))
      (cases_eq (i / 16) (count / 16))

  pub key_before : (in_bytes : Bool) (words i : ℕ) → i < count → key_of in_bytes words (block_of more parts (i / 16)) (i % 16) ≡ key_of in_bytes words (block_of tiles parts (i / 16)) (i % 16)
  key_before in_bytes words i low = key_same in_bytes words (block_of more parts (i / 16)) (block_of tiles parts (i / 16)) (i % 16) (λ x. entry_before i x low)

  pub pushed_vectors : (width : ℕ) → parts ≡ tiles_for width → length v ≡ width → vectors_in width more (count + 1) ≡ vectors_in width tiles count ++ v ∷ []
  pushed_vectors width are long =
      let vector_at : List (List (List ℕ)) → ℕ → Vector = λ ts i. map (entry_of (block_of ts parts (i / 16)) (i % 16)) (range_with_len 0 width) in
      let is : (ts : List (List (List ℕ))) (n : ℕ) → vectors_in width ts n ≡ map (vector_at ts) (range_with_len 0 n) =
      λ ts n. ap (λ w. map (λ i. map (entry_of (block_of ts w (i / 16)) (i % 16)) (range_with_len 0 width)) (range_with_len 0 n)) (sym are) in
      is more (count + 1) ∙ map-range_with_len_more (vector_at more) 0 count count (let z : 0 + count ≡ count = omega arith in z)
      ∙
      (λ j.
      map_range_same (vector_at more) (vector_at tiles) 0 count
      (λ i low.
      map_range_same (entry_of (block_of more parts ((0 + i) / 16)) ((0 + i) % 16))
      (entry_of (block_of tiles parts ((0 + i) / 16)) ((0 + i) % 16)) 0 width
      (λ x below. entry_before (0 + i) (0 + x) (omega (arith, low))))
      j
      ++ last j ∷ [])
      ∙ ap (λ (vs : List Vector). vs ++ v ∷ []) (sym (is tiles count))
    where
      last : map (entry_of (block_of more parts (count / 16)) (count % 16)) (range_with_len 0 width) ≡ v
      last =
          let f = entry_of (block_of more parts (count / 16)) (count % 16) in
          let l = length-map-range_with_len f 0 width in
          same_number_lists (map f (range_with_len 0 width)) v (l ∙ sym long)
          (λ x low. (let below : x < width = omega (arith, low, l) in get_or-map-range_with_len f 0 width x x 0 below (omega arith) ∙ h.lane x (omega (arith, below, long))))

-- the keys of the vectors, and of one more
key_in : (keys key : List ℕ) (words i count : ℕ) → length keys ≡ count * words → i < count → key_at (keys ++ key) words i ≡ key_at keys words i
key_in keys key words i count long low =
    let e : (i + 1) * words ≡ i * words + words = omega arith in
    let m : (i + 1) * words ≤ count * words = mul-le-mul_right words (let l : i + 1 ≤ count = omega (arith, low) in l) in
    range_before keys key (i * words) (i * words + words) (omega arith) (omega (arith, e, m, long))

key_last : (keys key : List ℕ) (words count : ℕ) → length keys ≡ count * words → length key ≡ words → key_at (keys ++ key) words count ≡ key
key_last keys key words count long one =
    let n : count * words + words - count * words ≡ words = omega arith in
    ap (λ m. take m (drop (count * words) (keys ++ key))) n
    ∙ ap (λ m. take words (drop m (keys ++ key))) (sym long) ∙ ap (take words) (drop-append_seam keys key)
    ∙ take_all words key (omega (arith, one))

pub pushed_columns : (width : ℕ) (in_bytes : Bool) (parts words count blocks : ℕ) (tiles : List (List (List ℕ))) (keys : Vec ℕ Global)
    (key front : List ℕ) (ready : Bool)
    → AreColumns width in_bytes parts words count blocks tiles keys key front ready
    → (more : List (List (List ℕ))) (v : Vector) (keys' : Vec ℕ Global) (key' front' : List ℕ)
    → IsEntered parts count tiles more v → AreBelow (limit in_bytes) more → 0 < length front' → AllByRecursion (λ r. r ≤ count) front' → count < 16 * blocks → count + 1 < 2 ^ 32
    → key' ≡ key_of in_bytes words (block_of more parts (count / 16)) (count % 16) → keys'.items ≡ keys.items ++ key' → length key' ≡ words
    → AreColumns width in_bytes parts words (count + 1) blocks more keys' key' front' false
pushed_columns width in_bytes parts words count blocks tiles keys key front ready h more v keys' key' front' entered low some named room few key_is keys_are long = record {
  narrow = h.narrow;
  parts_are = h.parts_are;
  words_are = h.words_are;
  low = low;
  whole = (let w = h.whole in let l = entered.long in omega (arith, w, l));
  within = omega (arith, room);
  tight = (let t = h.tight in omega (arith, t));
  few = few;
  keyed = (let l = length-append keys.items key' in let k = h.keyed in let e = ap (length {A = ℕ}) keys_are in omega (arith, l, k, e, long));
  keys_are = λ i less. ap (λ (ks : List ℕ). key_at ks words i) keys_are ∙ ⊎_elim
      (λ before. key_in keys.items key' words i count h.keyed before ∙ h.keys_are i before ∙ sym (key_before parts count tiles more v entered in_bytes words i before))
      (λ after.
      let last : i ≡ count = omega (arith, less, after) in
      subst (λ k. key_at (keys.items ++ key') words k ≡ key_of in_bytes words (block_of more parts (k / 16)) (k % 16)) (sym last) (key_last keys.items key' words count h.keyed long ∙ key_is))
      (cases_lt i count);
  key_long = long;
  some = some;
  named = all_weaker (λ r. r ≤ count) (λ r. r ≤ count + 1 - 1) (λ r less. omega (arith, less)) front' named;
  room = λ t. cc;
}
