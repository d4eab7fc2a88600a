-- Products of operations: their values by tuples of pairs, and that they are within the limits.
use Rattle.std.proofs.Common.{◌≡◌, ℕ, zero, suc, ◌+◌, ◌*◌, ◌^◌, ◌<◌, ◌≤◌, List, [], ◌∷◌, ◌++◌, length, map, take, get_or, refl, sym, ap, ◌∙◌, subst, arith, Some}
use Rattle.std.specs.Prelude.{nat_eq, slice_index, slice_get, zip}
use Rattle.std.specs.List.{AllByRecursion, IsDistinct, range_with_len}
use Rattle.std.specs.Cmp.Lexicographic.{pointwise}
use Rattle.std.proofs.Math.Nat.{div-lt_iff_lt-mul, mul-le-mul_right}
use Rattle.std.proofs.lemmas.Nat.{mod_below}
use Rattle.std.proofs.lemmas.List.{get_or-map, map-append, take_more, take_all, length-map}
use Rattle.std.proofs.lemmas.List.Sums.{sum_by-cons}
use Rattle.std.proofs.lemmas.Slice.Zip.{length-zip}
use Rattle.std.proofs.lemmas.List.Elements.{All-from_recursion}
use Rattle.std.proofs.lemmas.Option.{slice_get_within, get_or_from_slice_get}
use Rattle.std.proofs.lemmas.List.FromFn.{length-range_with_len}
use Rattle.std.proofs.lemmas.Simd.{map-map}
use Rattle.ua_table.specs.declared.limits.TheConstants.{SIZE, VALUES}
use Rattle.ua_table.specs.Algebras.{FiniteAlgebra, Operation, IsOperation, arities_of, names_of, numeral, signature, values_of}
use Rattle.ua_table.specs.Tables.{IsTable, IsAlgebraTable}
use Rattle.ua_table.proofs.Lists.{mapped_at, all_weaker}
use Rattle.ua_prod.specs.Constructions.{value_of, tuples_among, first_of, second_of, pair_number, paired, side_by_side, product_of}
use Rattle.ua_prod.specs.Sizes.{values_needed}
use Rattle.ua_prod.proofs.SizeLaws.{each_within}
use Rattle.ua_prod.proofs.TupleLaws.{tuples_mapped, count_tuples}
use Rattle.ua_prod.proofs.RenumberingLaws.{all_mapped, all_both, read_below}

-- ---- pairs by their numbers

-- the first elements of pairs are below the one size
pub firsts_below : (n m : ℕ) → 0 < m → AllByRecursion (λ x. x < n) (map (first_of m) (range_with_len 0 (n * m)))
firsts_below n m some = from 0 (n * m) (omega arith)
  where
    from : (b k : ℕ) → b + k ≤ n * m → AllByRecursion (λ x. x < n) (map (first_of m) (range_with_len b k))
    from b zero w = tt
    from b (suc k) w = ((div-lt_iff_lt-mul {k = m} {x = b} {y = n} some).1 (omega (arith, w)), from (b + 1) k (omega (arith, w)))

-- and the second ones below the other
pub seconds_below : (n m : ℕ) → 0 < m → AllByRecursion (λ x. x < m) (map (second_of m) (range_with_len 0 (n * m)))
seconds_below n m some = all_mapped (λ x. x < m) (second_of m) (λ x. mod_below x m some) (range_with_len 0 (n * m))

-- a pair's number is below the product of the sizes
pub pair_below : (n m x y : ℕ) → x < n → y < m → pair_number m x y < n * m
pair_below n m x y low high = let more : suc x * m ≤ n * m = mul-le-mul_right m low in omega (arith, more, high)

-- ---- tuples of pairs

-- the numbers of the tuples of what f makes of some members
pub numbers_mapped : (f : ℕ → ℕ) (n : ℕ) (xs digits numbers : List ℕ) (k : ℕ) → digits ≡ map f xs → numbers ≡ map (numeral n) (tuples_among digits k) → numbers ≡ map (λ t. numeral n (map f t)) (tuples_among xs k)
numbers_mapped f n xs digits numbers k are is = is ∙ ap (λ ds. map (numeral n) (tuples_among ds k)) are ∙ ap (map (numeral n)) (tuples_mapped f xs k) ∙ map-map (numeral n) (map f) (tuples_among xs k)

-- the value of an operation that is read at the place of such a number
pub value_mapped : (f : ℕ → ℕ) (o : Operation) (values numbers : List ℕ) (tuples : List (List ℕ)) (i number value : ℕ) → values ≡ o.values
    → numbers ≡ map (λ t. numeral o.size (map f t)) tuples → i < length tuples → number ≡ get_or numbers i number → value ≡ slice_index values number
    → value ≡ value_of o (map f (get_or tuples i []))
value_mapped f o values numbers tuples i number value are is w read there =
    let at : number ≡ numeral o.size (map f (get_or tuples i [])) = read ∙ ap (λ (ns : List ℕ). get_or ns i number) is ∙ get_or-map (λ t. numeral o.size (map f t)) tuples i [] number w in
    there ∙ (λ j. slice_index (are j) (at j))

-- a number of a tuple is that of a value
pub number_within : (o : Operation) (numbers : List ℕ) (i number : ℕ) → IsTable o → AllByRecursion (λ m. m < o.size ^ o.arity) numbers → i < length numbers → number ≡ get_or numbers i number → number < length o.values
number_within o numbers i number t all w read =
    let low = All-from_recursion (λ m. m < o.size ^ o.arity) numbers all i number w in
    let total = t.operation.total in
    omega (arith, low, total, read)

module _ (o p : Operation) where
  -- the tuples of pairs
  abbrev pub tuples_of_pairs : List (List ℕ)
  tuples_of_pairs = tuples_among (range_with_len 0 (o.size * p.size)) o.arity

  -- the number of the pair of the two values at a tuple of pairs
  abbrev pub paired_value : List ℕ → ℕ
  paired_value args = pair_number p.size (value_of o (map (first_of p.size) args)) (value_of p (map (second_of p.size) args))

  pub count_pairs : length tuples_of_pairs ≡ (o.size * p.size) ^ o.arity
  count_pairs = count_tuples (range_with_len 0 (o.size * p.size)) o.arity ∙ ap (λ n. n ^ o.arity) (length-range_with_len 0 (o.size * p.size))

  -- one value more
  pub paired_more : (old new : List ℕ) (i left right : ℕ) → i < length tuples_of_pairs → old ≡ map paired_value (take i tuples_of_pairs)
      → new ≡ old ++ (left * p.size + right) ∷ [] → left ≡ value_of o (map (first_of p.size) (get_or tuples_of_pairs i []))
      → right ≡ value_of p (map (second_of p.size) (get_or tuples_of_pairs i []))
      → new ≡ map paired_value (take (i + 1) tuples_of_pairs)
  paired_more old new i left right w before pushed l r =
      pushed ∙ (λ j. before j ++ (l j * p.size + r j) ∷ []) ∙ sym (ap (map paired_value) (take_more tuples_of_pairs i [] w) ∙ map-append paired_value (take i tuples_of_pairs) (get_or tuples_of_pairs i [] ∷ []))

  -- the values are elements of the product
  pub paired_below : IsTable o → IsTable p → o.size * p.size ≤ SIZE → AllByRecursion (λ v. v < o.size * p.size) (paired o p).values
  paired_below t u few =
      all_mapped (λ v. v < o.size * p.size) paired_value
      (λ args.
      pair_below o.size p.size (value_of o (map (first_of p.size) args)) (value_of p (map (second_of p.size) args))
      (value_below o t (map (first_of p.size) args)) (value_below p u (map (second_of p.size) args)))
      tuples_of_pairs
    where
      value_below : (q : Operation) → IsTable q → (args : List ℕ) → value_of q args < q.size
      value_below q t args = read_below q.size q.values (numeral q.size args) t.inhabited t.operation.below

  -- the product of two operations is within the limits
  pub paired-IsTable : IsTable o → IsTable p → o.size * p.size ≤ SIZE → (o.size * p.size) ^ o.arity ≤ VALUES → IsTable (paired o p)
  paired-IsTable t u few small =
      let count = length-map tuples_of_pairs paired_value ∙ count_pairs in
      record {
        inhabited = (let k = mul-le-mul_right p.size t.inhabited in let s = u.inhabited in omega (arith, k, s));
        small = few;
        arity = t.arity;
        operation = record { total = count; below = paired_below t u few };
        values = omega (arith, count, small);
        free = t.free;
      }

-- ---- products of algebras

-- the name and arity of an operation
abbrev symbol : Operation → List ℕ × ℕ
symbol o = (o.name, o.arity)

pub same_count : (a b : FiniteAlgebra) → signature a ≡ signature b → length a.operations ≡ length b.operations
same_count a b e = sym (length-map a.operations symbol) ∙ ap length e ∙ length-map b.operations symbol

pub same_arity : (a b : FiniteAlgebra) (f : ℕ) (o p : Operation) → signature a ≡ signature b → slice_get a.operations f ≡ Some o → slice_get b.operations f ≡ Some p → o.arity ≡ p.arity
same_arity a b f o p e here there =
    let left : slice_get (signature a) f ≡ Some (symbol o) = mapped_at symbol a.operations f o here in
    let right : slice_get (signature b) f ≡ Some (symbol p) = mapped_at symbol b.operations f p there in
    let both : Some (symbol o) ≡ Some (symbol p) = sym left ∙ ap (λ (ss : List (List ℕ × ℕ)). slice_get ss f) e ∙ right in
    let one : symbol o ≡ symbol p = cc in
    ap (λ (s : List ℕ × ℕ). s.1) one

pub zipped_at : (os ps : List Operation) (f : ℕ) (o p : Operation) → slice_get os f ≡ Some o → slice_get ps f ≡ Some p → slice_get (zip os ps) f ≡ Some (o, p)
zipped_at [] ps f o p e h = cc
zipped_at (q ∷ os) [] f o p e h = cc
zipped_at (q ∷ os) (r ∷ ps) zero o p e h = let left : q ≡ o = cc in let right : r ≡ p = cc in λ j. Some (left j, right j)
zipped_at (q ∷ os) (r ∷ ps) (suc f) o p e h = zipped_at os ps f o p e h

-- one operation more
pub side_more : (os ps : List Operation) (f : ℕ) (o p t : Operation) (old new : List Operation) → slice_get os f ≡ Some o → slice_get ps f ≡ Some p
    → old ≡ map (λ (both : Operation × Operation). paired both.0 both.1) (take f (zip os ps)) → new ≡ old ++ t ∷ [] → t ≡ paired o p
    → new ≡ map (λ (both : Operation × Operation). paired both.0 both.1) (take (f + 1) (zip os ps))
side_more os ps f o p t old new here there before pushed is =
    let both = zipped_at os ps f o p here there in
    let w = slice_get_within (zip os ps) f (o, p) both in
    let at = get_or_from_slice_get (zip os ps) f (o, p) (o, p) both in
    pushed ∙ (λ j. before j ++ is j ∷ []) ∙ (λ j. map side (take f (zip os ps)) ++ side (sym at j) ∷ [])
    ∙ sym (ap (map side) (take_more (zip os ps) f (o, p) w) ∙ map-append side (take f (zip os ps)) (get_or (zip os ps) f (o, p) ∷ []))
  where
    side : Operation × Operation → Operation
    side both = paired both.0 both.1

-- all of them
pub side_all : (os ps : List Operation) (f : ℕ) (new : List Operation) → length os ≤ f → new ≡ map (λ (both : Operation × Operation). paired both.0 both.1) (take f (zip os ps)) → new ≡ side_by_side os ps
side_all os ps f new w is = is ∙ ap (map (λ (both : Operation × Operation). paired both.0 both.1)) (take_all f (zip os ps) (let n = length-zip os ps in omega (arith, n, w)))

-- ---- the product is an algebra within the limits

side_names : (os ps : List Operation) → length os ≡ length ps → names_of (side_by_side os ps) ≡ names_of os
side_names [] ps e = refl
side_names (o ∷ os) [] e = absurd (omega (arith, e))
side_names (o ∷ os) (p ∷ ps) e = ap (λ (ns : List (List ℕ)). o.name ∷ ns) (side_names os ps (omega (arith, e)))

module _ (n m : ℕ) (few : n * m ≤ SIZE) where
  -- a table and its size
  abbrev OfSize : ℕ → Operation → Type 0
  OfSize k o = IsTable o × (o.size ≡ k)

  sides : (os ps : List Operation) → AllByRecursion (OfSize n) os → AllByRecursion (OfSize m) ps → AllByRecursion (λ k. (n * m) ^ k ≤ VALUES) (map (λ (o : Operation). o.arity) os) → AllByRecursion (OfSize (n * m)) (side_by_side os ps)
  sides [] ps h k v = tt
  sides (o ∷ os) [] h k v = tt
  sides (o ∷ os) (p ∷ ps) h k v =
      let size : o.size * p.size ≡ n * m = λ j. h.0.1 j * k.0.1 j in
      let power : (o.size * p.size) ^ o.arity ≡ (n * m) ^ o.arity = ap (λ s. s ^ o.arity) size in
      ((paired-IsTable o p h.0.0 k.0.0 (omega (arith, size, few)) (omega (arith, power, v.0)), size), sides os ps h.1 k.1 v.1)

  side_values : (os ps : List Operation) → length os ≡ length ps → AllByRecursion (OfSize n) os → AllByRecursion (OfSize m) ps → values_of (side_by_side os ps) ≡ values_needed (n * m) (map (λ (o : Operation). o.arity) os)
  side_values [] ps e h k = refl
  side_values (o ∷ os) [] e h k = absurd (omega (arith, e))
  side_values (o ∷ os) (p ∷ ps) e h k =
      let size : o.size * p.size ≡ n * m = λ j. h.0.1 j * k.0.1 j in
      let one : length (paired o p).values ≡ (n * m) ^ o.arity = length-map (tuples_of_pairs o p) (paired_value o p) ∙ count_pairs o p ∙ ap (λ s. s ^ o.arity) size in
      let left = sum_by-cons (λ (w : Operation). length w.values) (paired o p) (side_by_side os ps) in
      let right = sum_by-cons (λ k. (n * m) ^ k) o.arity (map (λ (w : Operation). w.arity) os) in
      let rest = side_values os ps (omega (arith, e)) h.1 k.1 in
      left ∙ (λ j. one j + rest j) ∙ sym right

tables_of : (a : FiniteAlgebra) → IsAlgebraTable a → AllByRecursion (λ (o : Operation). IsTable o × (o.size ≡ a.size)) a.operations
tables_of a t = all_both IsTable (λ (o : Operation). o.size ≡ a.size) a.operations t.tables (all_weaker (λ (o : Operation). (o.size ≡ a.size) × IsOperation o) (λ o. o.size ≡ a.size) (λ o h. h.0) a.operations t.algebra.operations)

pub product-IsAlgebraTable : (name : List ℕ) (a b : FiniteAlgebra) → IsAlgebraTable a → IsAlgebraTable b → signature a ≡ signature b
    → a.size * b.size ≤ SIZE → values_needed (a.size * b.size) (arities_of a) ≤ VALUES → IsAlgebraTable (product_of name a b)
product-IsAlgebraTable name a b t u e few small =
    let os = a.operations in
    let ps = b.operations in
    let all = sides a.size b.size few os ps (tables_of a t) (tables_of b u) (each_within (a.size * b.size) VALUES (arities_of a) small) in
    let count = same_count a b e in
    record {
      algebra = record {
        inhabited = (let k = mul-le-mul_right b.size t.algebra.inhabited in let s = u.algebra.inhabited in omega (arith, k, s));
        operations = all_weaker (λ (o : Operation). IsTable o × (o.size ≡ a.size * b.size)) (λ o. (o.size ≡ a.size * b.size) × IsOperation o) (λ o h. (h.1, h.0.operation)) (side_by_side os ps) all;
      };
      small = few;
      few = (let n = length-map (zip os ps) (λ (both : Operation × Operation). paired both.0 both.1) in let m = length-zip os ps in let k = t.few in omega (arith, n, m, k));
      tables = all_weaker (λ (o : Operation). IsTable o × (o.size ≡ a.size * b.size)) IsTable (λ o h. h.0) (side_by_side os ps) all;
      names = subst (IsDistinct (pointwise nat_eq)) (sym (side_names os ps count)) t.names;
      values = (let v = side_values a.size b.size few os ps count (tables_of a t) (tables_of b u) in omega (arith, v, small));
    }
