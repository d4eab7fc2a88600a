-- Lines of an operation: what a table's values at one coordinate say of the operation's vectors.
use Rattle.std.proofs.Common.{◌≡◌, ◌≢◌, ◌/◌, ◌%◌, ℕ, zero, suc, ◌+◌, ◌-◌, ◌*◌, ◌^◌, ◌<◌, ◌≤◌, Bool, true, false, List, [], ◌∷◌, length, map, set, replicate, refl, sym, ap, ◌∙◌, subst, arith, Some, ⊎_elim}
use Rattle.std.specs.Prelude.{slice_get, slice_index, slice_index_or, slice_set, nat_lt, if◌then◌else◌}
use Rattle.std.specs.List.{AllByRecursion}
use Rattle.std.proofs.Math.Nat.{one-le-pow, pow-le-pow_right, mul-le-mul}
use Rattle.std.proofs.lemmas.Bool.{cases_lt, cases_eq, lt-ltb, le-ltb}
use Rattle.std.proofs.lemmas.Grind.{same_number_lists}
use Rattle.std.proofs.lemmas.List.{length-set, map-set, get_or-set_same, get_or-set_other}
use Rattle.std.proofs.lemmas.List.FromFn.{length-map-range_with_len, get_or-map-range_with_len}
use Rattle.std.proofs.lemmas.Option.{get_or_from_slice_get}
use Rattle.ua_table.specs.Algebras.{Vector, Operation, FiniteAlgebra, Product, IsOperation, IsAlgebra, IsProduct, IsVector, numeral, value_at, column, apply}
use Rattle.ua_table.proofs.Lists.{found, mapped_at, All-slice_get, AllZip-length, AllZip-slice_get, all_weaker, all_set}
use Rattle.ua_table.specs.Tables.{IsTable}
use Rattle.ua_table.proofs.Codes.{numeral-cons}
use Rattle.ua_table.proofs.ApplyLaws.{operation_at, length-apply, apply_at, numeral-below}
use Rattle.ua_rows.proofs.ApplyForms.{size_is}
use Rattle.ua_columns.specs.inner.Tiles.{value_across}
use Rattle.ua_columns.specs.Columns.{limit, entry_of, values_at}
use Rattle.ua_lanes.specs.Lines.{AreSizesAtMost, size_at, algebra_at, line_value}
use Rattle.ua_lanes.specs.inner.Lines.{table_value, scale_at}
use Rattle.ua_rows.proofs.LineLaws.{all_or}

-- ---- the algebra of a coordinate

pub size_there : (p : Product) (x : ℕ) (a : FiniteAlgebra) → slice_get p x ≡ Some a → size_at p x ≡ a.size
size_there p x a at = get_or_from_slice_get (map (λ (b : FiniteAlgebra). b.size) p) x a.size 0 (mapped_at (λ (b : FiniteAlgebra). b.size) p x a at)

pub algebra_there : (p : Product) (x : ℕ) (a : FiniteAlgebra) → slice_get p x ≡ Some a → algebra_at p x ≡ a
algebra_there p x a at = get_or_from_slice_get p x a record { name = []; size = 0; operations = [] } at

pub size_most : (n : ℕ) (p : Product) (x : ℕ) (a : FiniteAlgebra) → AreSizesAtMost n p → slice_get p x ≡ Some a → a.size ≤ n
size_most n p x a sizes at = All-slice_get (λ (b : FiniteAlgebra). b.size ≤ n) p x a sizes at

-- ---- lines are of numbers below the size

values_low : (n : ℕ) (a : FiniteAlgebra) (os : List Operation) → a.size ≤ n → AllByRecursion (λ (o : Operation). (o.size ≡ a.size) × IsOperation o) os → AllByRecursion (AllByRecursion (λ v. v < n)) (map (λ (o : Operation). o.values) os)
values_low n a [] most all = tt
values_low n a (o ∷ os) most all =
    let fine = all.0 in
    let size = fine.0 in
    (all_weaker (λ v. v < o.size) (λ v. v < n) (λ v low. omega (arith, low, size, most)) o.values fine.1.below, values_low n a os most all.1)

value_low : (n : ℕ) (a : FiniteAlgebra) (f : ℕ) (xs : List ℕ) → 0 < n → IsAlgebra a → a.size ≤ n → value_at a f xs < n
value_low n a f xs some h most =
    all_or (λ v. v < n) (slice_index_or (map (λ (o : Operation). o.values) a.operations) f []) (numeral a.size xs) 0 some
    (all_or (AllByRecursion (λ v. v < n)) (map (λ (o : Operation). o.values) a.operations) f [] tt (values_low n a a.operations most h.operations))

default_low : (n : ℕ) (p : Product) (f x : ℕ) (xs : List ℕ) → 0 < n → IsProduct p → AreSizesAtMost n p → value_at (algebra_at p x) f xs < n
default_low n p f x xs some h sizes = ⊎_elim
    (λ low. (let there = found p x low in
    subst (λ (a : FiniteAlgebra). value_at a f xs < n) (sym (algebra_there p x there.0 there.1))
    (value_low n there.0 f xs some (All-slice_get IsAlgebra p x there.0 h.algebras there.1) (size_most n p x there.0 sizes there.1))))
    (λ high. subst (λ (a : FiniteAlgebra). value_at a f xs < n) (sym (past p x high)) some)
    (cases_lt x (length p))
  where
    past : (p : Product) (x : ℕ) → length p ≤ x → algebra_at p x ≡ record { name = []; size = 0; operations = [] }
    past [] x high = refl
    past (a ∷ p) zero high = absurd (omega (arith, high))
    past (a ∷ p) (suc x) high = past p x (omega (arith, high))

pub line_low : (n : ℕ) (p : Product) (f : ℕ) (vs : List Vector) (free x y : ℕ) → 0 < n → IsProduct p → AreSizesAtMost n p → line_value p f vs free x y < n
line_low n p f vs free x y some h sizes = either (nat_lt y (size_at p x))
  where
    either : (b : Bool) → (if b then value_at (algebra_at p x) f (slice_set (column vs x) free y) else 0) < n
    either true = default_low n p f x (slice_set (column vs x) free y) some h sizes
    either false = some

-- ---- a line in parts of sixteen

-- one value of it was written
module _ (line : List (List ℕ)) (column : List ℕ) (y : ℕ) (within : y / 16 < length line) where
  pub across_here : (v : ℕ) → slice_index column (y % 16) ≡ v → value_across (set line (y / 16) column) y ≡ v
  across_here v is = ap (λ (c : List ℕ). slice_index c (y % 16)) (get_or-set_same line (y / 16) column [] within) ∙ is

  pub across_others : ((r : ℕ) → r ≢ y % 16 → slice_index column r ≡ slice_index (slice_index_or line (y / 16) []) r) → (k : ℕ) → k ≢ y → value_across (set line (y / 16) column) k ≡ value_across line k
  across_others others k apart = ⊎_elim
      (λ same. (let rest : k % 16 ≢ y % 16 = λ e. apart (omega (arith, e, same)) in
      ap (λ n. slice_index (slice_index_or (set line (y / 16) column) n []) (k % 16)) same
      ∙ ap (λ (c : List ℕ). slice_index c (k % 16)) (get_or-set_same line (y / 16) column [] within)
      ∙ others (k % 16) rest ∙ ap (λ n. slice_index (slice_index_or line n []) (k % 16)) (sym same)))
      (λ other. ap (λ (c : List ℕ). slice_index c (k % 16)) (get_or-set_other line (y / 16) (k / 16) column [] other))
      (cases_eq (k / 16) (y / 16))

-- ---- a column of a tile that was written

module _ (out : List (List (List ℕ))) (tile : List (List ℕ)) (x : ℕ) (within : x / 16 < length out) where
  pub column_here : (y : ℕ) → entry_of (set out (x / 16) tile) y x ≡ slice_index (slice_index_or tile (x % 16) []) y
  column_here y = ap (λ (t : List (List ℕ)). slice_index (slice_index_or t (x % 16) []) y) (get_or-set_same out (x / 16) tile [] within)

  pub column_others : ((c : ℕ) → c ≢ x % 16 → slice_index_or tile c [] ≡ slice_index_or (slice_index_or out (x / 16) []) c []) → (k y : ℕ) → k ≢ x → entry_of (set out (x / 16) tile) y k ≡ entry_of out y k
  column_others others k y apart = ⊎_elim
      (λ same. (let rest : k % 16 ≢ x % 16 = λ e. apart (omega (arith, e, same)) in
      ap (λ n. slice_index (slice_index_or (slice_index_or (set out (x / 16) tile) n []) (k % 16) []) y) same
      ∙ ap (λ (t : List (List ℕ)). slice_index (slice_index_or t (k % 16) []) y) (get_or-set_same out (x / 16) tile [] within)
      ∙ ap (λ (c : List ℕ). slice_index c y) (others (k % 16) rest)
      ∙ ap (λ n. slice_index (slice_index_or (slice_index_or out n []) (k % 16) []) y) (sym same)))
      (λ other. ap (λ (t : List (List ℕ)). slice_index (slice_index_or t (k % 16) []) y) (get_or-set_other out (x / 16) (k / 16) tile [] other))
      (cases_eq (k / 16) (x / 16))

-- ---- by what values are multiplied

pub some_scale : (in_bytes : Bool) (x : ℕ) → 0 < scale_at in_bytes x
some_scale true x = omega arith
some_scale false x = pow_pos (x % 2)
  where
    pow_pos : (k : ℕ) → 0 < 16 ^ k
    pow_pos k = (let e = one-le-pow k 16 (omega arith) in omega (arith, e))

pub scale_fits : (in_bytes : Bool) (x size : ℕ) → size ≤ limit in_bytes → size * scale_at in_bytes x ≤ 256
scale_fits true x size most = omega (arith, most)
scale_fits false x size most = mul-le-mul most power
  where
    power : 16 ^ (x % 2) ≤ 16
    power = (let some : 0 < 16 = omega arith in let low : x % 2 ≤ 1 = omega arith in pow-le-pow_right some low)

-- ---- past the last coordinate

pub zeros_low : (n parts : ℕ) → 0 < n → AllByRecursion (AllByRecursion (λ x. x < n)) (replicate parts (replicate 16 0))
zeros_low n parts some = all_replicate (AllByRecursion (λ x. x < n)) (replicate 16 0) parts (all_replicate (λ x. x < n) 0 16 some)
  where
    all_replicate : {X : Type 0} (P : X → Type 0) (x : X) (k : ℕ) → P x → AllByRecursion P (replicate k x)
    all_replicate P x zero h = tt
    all_replicate P x (suc k) h = (h, all_replicate P x k h)

pub zeros_across : (parts y : ℕ) → value_across (replicate parts (replicate 16 0)) y ≡ 0
zeros_across parts y =
    let low : value_across (replicate parts (replicate 16 0)) y < 1 = all_or (λ n. n < 1) (slice_index_or (replicate parts (replicate 16 0)) (y / 16) []) (y % 16) 0 (omega arith)
    (all_or (AllByRecursion (λ n. n < 1)) (replicate parts (replicate 16 0)) (y / 16) [] tt (zeros_low 1 parts (omega arith))) in
    omega (arith, low)

pub line_past : (p : Product) (f : ℕ) (vs : List Vector) (free x y : ℕ) → length p ≤ x → line_value p f vs free x y ≡ 0
line_past p f vs free x y past = ap (λ (b : Bool). if b then value_at (algebra_at p x) f (slice_set (column vs x) free y) else 0) (le-ltb y (size_at p x) (let n = none p x past in omega (arith, n)))
  where
    none : (p : Product) (x : ℕ) → length p ≤ x → size_at p x ≡ 0
    none [] x past = refl
    none (a ∷ p) zero past = absurd (omega (arith, past))
    none (a ∷ p) (suc x) past = none p x (omega (arith, past))

-- ---- the value of a table is that of the line

pub line_is : (p : Product) (f x : ℕ) (a : FiniteAlgebra) (o : Operation) → IsProduct p → slice_get p x ≡ Some a → slice_get a.operations f ≡ Some o → (vs : List Vector) (free y : ℕ) (xs : List ℕ) → xs ≡ column vs x
    → table_value o xs free y ≡ line_value p f vs free x y
line_is p f x a o h at e vs free y xs is =
    let size : o.size ≡ a.size = size_is p f x a h at o e in
    let there : size_at p x ≡ o.size = size_there p x a at ∙ sym size in
    let value : slice_index o.values (numeral o.size (slice_set xs free y)) ≡ value_at (algebra_at p x) f (slice_set (column vs x) free y) =
    ap (λ n. slice_index o.values (numeral n (slice_set xs free y))) size
    ∙ ap (λ (ws : List ℕ). slice_index ws (numeral a.size (slice_set xs free y))) (sym (operation_at a.operations f o e))
    ∙ ap (λ (b : FiniteAlgebra). value_at b f (slice_set xs free y)) (sym (algebra_there p x a at))
    ∙ ap (λ (zs : List ℕ). value_at (algebra_at p x) f (slice_set zs free y)) is in
    λ i. if nat_lt y (sym there i) then value i else 0

-- ---- lines at the entries of a vector give the operation's vector

pub lines_apply : (p : Product) (f : ℕ) (vs : List Vector) (free : ℕ) (v : Vector) → IsVector p v → values_at (line_value p f vs free) v ≡ apply p f (set vs free v)
lines_apply p f vs free v vector =
    let g : ℕ → ℕ = λ x. line_value p f vs free x (slice_index v x) in
    let wide : length p ≡ length v = AllZip-length (λ (a : FiniteAlgebra) x. x < a.size) p v vector in
    let all = length-apply p f (set vs free v) in
    let long = length-map-range_with_len g 0 (length v) in
    same_number_lists (values_at (line_value p f vs free) v) (apply p f (set vs free v)) (long ∙ sym wide ∙ sym all)
    (λ x low.
    let inside : x < length p = omega (arith, low, long, wide) in
    let within : x < length v = omega (arith, low, long) in
    let there = found p x inside in
    get_or-map-range_with_len g 0 (length v) x x 0 within (omega arith)
    ∙ at_coordinate x there.0 there.1
    ∙ sym (apply_at p f (set vs free v) x there.0 there.1))
  where
    chosen : (b : Bool) (m n : ℕ) → b ≡ true → (if b then m else n) ≡ m
    chosen true m n e = refl
    chosen false m n e = cc

    at_coordinate : (x : ℕ) (a : FiniteAlgebra) → slice_get p x ≡ Some a → line_value p f vs free x (slice_index v x) ≡ value_at a f (column (set vs free v) x)
    at_coordinate x a at =
        let below : slice_index v x < a.size = AllZip-slice_get (λ (b : FiniteAlgebra) y. y < b.size) p v x a vector at in
        let size = size_there p x a at in
        let is : nat_lt (slice_index v x) (size_at p x) ≡ true = lt-ltb (slice_index v x) (size_at p x) (omega (arith, below, size)) in
        chosen (nat_lt (slice_index v x) (size_at p x)) (value_at (algebra_at p x) f (slice_set (column vs x) free (slice_index v x))) 0 is
        ∙ ap (λ (b : FiniteAlgebra). value_at b f (slice_set (column vs x) free (slice_index v x))) (algebra_there p x a at)
        ∙ ap (value_at a f) (sym (map-set (λ (w : Vector). slice_index w x) vs free v))

-- ---- the numbers of arguments that differ in one place

-- as the digit at a place grows, so does the number, by a power of the base
pub numeral_set : (n : ℕ) (xs : List ℕ) (k y : ℕ) → k < length xs → numeral n (set xs k y) ≡ numeral n (set xs k 0) + y * n ^ (length xs - k - 1)
numeral_set n [] k y low = absurd (omega (arith, low))
numeral_set n (x ∷ xs) zero y low =
    let e : suc (length xs) - 0 - 1 ≡ length xs = omega arith in
    numeral-cons n y xs ∙ (let z : y * n ^ length xs + numeral n xs ≡ (0 * n ^ length xs + numeral n xs) + y * n ^ length xs = omega arith in z)
    ∙ (λ i. sym (numeral-cons n 0 xs) i + y * n ^ sym e i)
numeral_set n (x ∷ xs) (suc k) y low =
    let e : suc (length xs) - suc k - 1 ≡ length xs - k - 1 = omega arith in
    let inner = numeral_set n xs k y (omega (arith, low)) in
    let same : n ^ length (set xs k y) ≡ n ^ length (set xs k 0) = ap (λ m. n ^ m) (length-set xs k y ∙ sym (length-set xs k 0)) in
    numeral-cons n x (set xs k y)
    ∙ (λ i. x * same i + inner i)
    ∙ (let z : x * n ^ length (set xs k 0) + (numeral n (set xs k 0) + y * n ^ (length xs - k - 1)) ≡ (x * n ^ length (set xs k 0) + numeral n (set xs k 0)) + y * n ^ (length xs - k - 1) = omega arith in z)
    ∙ (λ i. sym (numeral-cons n x (set xs k 0)) i + y * n ^ sym e i)

-- and it is within a table
pub numeral_within : (o : Operation) (xs : List ℕ) (k y : ℕ) → IsTable o → length xs ≡ o.arity → AllByRecursion (λ x. x < o.size) xs → y < o.size → numeral o.size (set xs k y) < length o.values
numeral_within o xs k y t arity below small =
    let low = numeral-below o.size (set xs k y) (all_set (λ x. x < o.size) xs k y small below) in
    let all : o.size ^ length (set xs k y) ≡ length o.values = ap (λ m. o.size ^ m) (length-set xs k y ∙ arity) ∙ sym t.operation.total in
    omega (arith, low, all)
