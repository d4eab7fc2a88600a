-- What is drawn: one value more, one operation more, and that the algebra is within the limits.
use Rattle.std.proofs.Common.{◌≡◌, ℕ, zero, suc, ◌+◌, ◌/◌, ◌%◌, ◌^◌, ◌<◌, ◌≤◌, Bool, true, false, ◌||◌, List, [], ◌∷◌, ◌++◌, length, map, take, get_or, refl, sym, ap, ◌∙◌, subst, arith}
use Rattle.std.specs.Prelude.{nat_eq, ◌==◌, ◌&&◌}
use Rattle.std.specs.List.{AllByRecursion, IsDistinct, enumerate_from, list_all, range_with_len}
use Rattle.std.specs.Cmp.Lexicographic.{pointwise, bytes_decides}
use Rattle.std.specs.Fmt.{decimal}
use Rattle.std.specs.Str.Parse.{digits_value}
use Rattle.std.proofs.Math.Nat.{mod-lt}
use Rattle.std.proofs.lemmas.Bool.{le-leb}
use Rattle.std.proofs.lemmas.Fmt.{decimal_by_steps, decimal_is_IsNumeral, length-decimal-le}
use Rattle.std.proofs.lemmas.List.{map-append, take_more, take_all, length-map}
use Rattle.std.proofs.lemmas.List.FromFn.{get_or-enumerate_from, get_or-map-range_with_len, length-map-range_with_len, map-range_with_len_more, length-enumerate_from}
use Rattle.std.proofs.lemmas.List.Sums.{sum_by-cons}
use Rattle.std.proofs.lemmas.Map.Made.{IsDistinct-from_AllPairs}
use Rattle.ua_table.specs.declared.limits.TheConstants.{SIZE, ARITY, OPERATIONS, VALUES}
use Rattle.ua_table.specs.Algebras.{Operation, IsOperation, names_of, values_of}
use Rattle.ua_table.specs.Names.{is_name, is_letter, is_word_byte}
use Rattle.ua_table.specs.Numbering.{IsShape}
use Rattle.ua_table.specs.Tables.{IsTable, IsAlgebraTable}
use Rattle.ua_prod.specs.Sizes.{values_needed}
use Rattle.ua_prod.specs.Draws.{next_state, state_after, drawn, draws, drawn_operation, drawn_operations, drawn_algebra}
use Rattle.ua_prod.proofs.RenumberingLaws.{all_mapped, all_both}
use Rattle.ua_prod.proofs.SizeLaws.{each_within, needed_more}

-- ---- values

-- one draw more
pub state_more : (s n : ℕ) → state_after s (n + 1) ≡ next_state (state_after s n)
state_more s n = let e : n + 1 ≡ suc n = omega arith in ap (state_after s) e

pub draws_more : (bound s n : ℕ) → draws bound s (n + 1) ≡ draws bound s n ++ drawn bound (state_after s n) ∷ []
draws_more bound s n = map-range_with_len_more (λ i. drawn bound (state_after s i)) 0 n n (omega arith)

-- draws behind draws
pub state_sum : (s m n : ℕ) → state_after (state_after s m) n ≡ state_after s (m + n)
state_sum s m zero = let e : m ≡ m + 0 = omega arith in ap (state_after s) e
state_sum s m (suc n) = let e : suc (m + n) ≡ m + suc n = omega arith in ap next_state (state_sum s m n) ∙ ap (state_after s) e

-- what is drawn is below the bound
draws_below : (bound s n : ℕ) → 0 < bound → AllByRecursion (λ v. v < bound) (draws bound s n)
draws_below bound s n some = all_mapped (λ v. v < bound) (λ i. drawn bound (state_after s i)) (λ i. mod-lt (next_state (state_after s i) / 2 ^ 16) some) (range_with_len 0 n)

-- ---- names

-- both of two tests pass
both_pass : (a b : Bool) → a && b ≡ true → (a ≡ true) × (b ≡ true)
both_pass true b e = (refl, e)
both_pass false b e = cc

word_push : (ds : List ℕ) (d : ℕ) → list_all is_word_byte ds ≡ true → is_word_byte d ≡ true → list_all is_word_byte (ds ++ d ∷ []) ≡ true
word_push [] d h k = λ j. k j && true
word_push (c ∷ cs) d h k = let parts = both_pass (is_word_byte c) (list_all is_word_byte cs) h in λ j. parts.0 j && word_push cs d parts.1 k j

digit_stands : (n : ℕ) → n < 10 → is_word_byte (48 + n) ≡ true
digit_stands n low =
    let left = le-leb 48 (48 + n) (omega arith) in
    let right = le-leb (48 + n) 57 (omega (arith, low)) in
    (λ j. is_letter (48 + n) || (left j && right j) || (48 + n == 95)) ∙ any (is_letter (48 + n)) (48 + n == 95)
  where
    any : (a b : Bool) → a || true || b ≡ true
    any true b = refl
    any false b = refl

digits_stand : (n : ℕ) → n < 2 ^ 64 → list_all is_word_byte (decimal n) ≡ true
digits_stand n small =
    decimal_by_steps (λ _ ds. list_all is_word_byte ds ≡ true) (λ n low. word_push [] (48 + n) refl (digit_stands n low))
    (λ n ds high h. word_push ds (48 + n % 10) h (digit_stands (n % 10) (let some : 0 < 10 = omega arith in mod-lt n some))) n small

pub numbered-is_name : (f : ℕ) → f < OPERATIONS → is_name (102 ∷ decimal f) ≡ true
numbered-is_name f low =
    let few = length-decimal-le 2 f (omega arith) (omega (arith, low)) (omega (arith, low)) in
    let short = le-leb (suc (length (decimal f))) 32 (omega (arith, few)) in
    λ j. digits_stand f (omega (arith, low)) j && short j

-- different numbers have different names
numbered_apart : (i j : ℕ) → i < OPERATIONS → j < OPERATIONS → (102 ∷ decimal i) ≡ (102 ∷ decimal j) → i ≡ j
numbered_apart i j low high e =
    let same : decimal i ≡ decimal j = cc in
    let left = (decimal_is_IsNumeral i (omega (arith, low))).1 in
    let right = (decimal_is_IsNumeral j (omega (arith, high))).1 in
    sym left ∙ ap (digits_value 10) same ∙ right

-- ---- operations

pub drawn-IsTable : (size s f k : ℕ) → 0 < size → size ≤ SIZE → k ≤ ARITY → size ^ k ≤ VALUES → IsTable (drawn_operation size s f k)
drawn-IsTable size s f k some small low within =
    let count = length-map-range_with_len (λ i. drawn size (state_after s i)) 0 (size ^ k) in
    record {
      inhabited = some;
      small = small;
      arity = low;
      operation = record { total = count; below = draws_below size s (size ^ k) some };
      values = omega (arith, count, within);
      free = refl;
    }

-- the operation of a number and an arity
abbrev pub drawn_at : ℕ → ℕ → List ℕ → ℕ × ℕ → Operation
drawn_at size s arities e = drawn_operation size (state_after s (values_needed size (take e.0 arities))) e.0 e.1

-- the operations before a number
abbrev pub drawn_before : ℕ → ℕ → List ℕ → ℕ → List Operation
drawn_before size s arities f = map (drawn_at size s arities) (take f (enumerate_from 0 arities))

-- one operation more
pub drawn_more : (size s f now : ℕ) (arities : List ℕ) (t : Operation) (old new : List Operation) → f < length arities
    → old ≡ drawn_before size s arities f → now ≡ state_after s (values_needed size (take f arities)) → new ≡ old ++ t ∷ []
    → t ≡ drawn_operation size now f (get_or arities f 0) → new ≡ drawn_before size s arities (f + 1)
drawn_more size s f now arities t old new w before at pushed is =
    let n = length-enumerate_from 0 arities in
    let there : get_or (enumerate_from 0 arities) f (0, 0) ≡ (f, get_or arities f 0) = get_or-enumerate_from 0 arities f (0, 0) w ∙ (let z : 0 + f ≡ f = omega arith in ap (λ k. (k, get_or arities f 0)) z) in
    pushed ∙ (λ j. before j ++ is j ∷ []) ∙ (λ j. drawn_before size s arities f ++ drawn_operation size (at j) f (get_or arities f 0) ∷ [])
    ∙ (λ j. map (drawn_at size s arities) (take f (enumerate_from 0 arities)) ++ drawn_at size s arities (sym there j) ∷ [])
    ∙ sym
    (ap (map (drawn_at size s arities)) (take_more (enumerate_from 0 arities) f (0, 0) (omega (arith, n, w)))
    ∙ map-append (drawn_at size s arities) (take f (enumerate_from 0 arities)) (get_or (enumerate_from 0 arities) f (0, 0) ∷ []))

pub state_behind : (size s f now after : ℕ) (arities : List ℕ) → f < length arities → now ≡ state_after s (values_needed size (take f arities))
    → after ≡ state_after now (size ^ get_or arities f 0) → after ≡ state_after s (values_needed size (take (f + 1) arities))
state_behind size s f now after arities w at is =
    is ∙ ap (λ m. state_after m (size ^ get_or arities f 0)) at ∙ state_sum s (values_needed size (take f arities)) (size ^ get_or arities f 0)
    ∙ ap (state_after s) (sym (needed_more size arities f w))

-- all of them
pub drawn_all : (size s f : ℕ) (arities : List ℕ) (new : List Operation) → length arities ≤ f → new ≡ drawn_before size s arities f → new ≡ drawn_operations size s arities
drawn_all size s f arities new w is = is ∙ ap (map (drawn_at size s arities)) (take_all f (enumerate_from 0 arities) (let n = length-enumerate_from 0 arities in omega (arith, n, w)))

-- ---- the algebra

module _ (draw : ℕ × ℕ → Operation) where
  all_drawn : (P : Operation → Type 0) (Q : ℕ → Type 0) → ((f k : ℕ) → Q k → P (draw (f, k))) → (b : ℕ) (ks : List ℕ) → AllByRecursion Q ks → AllByRecursion P (map draw (enumerate_from b ks))
  all_drawn P Q each b [] h = tt
  all_drawn P Q each b (k ∷ ks) h = (each b k h.0, all_drawn P Q each (b + 1) ks h.1)

  names_drawn : ((f k : ℕ) → (draw (f, k)).name ≡ 102 ∷ decimal f) → (b : ℕ) (ks : List ℕ) → names_of (map draw (enumerate_from b ks)) ≡ map (λ f. 102 ∷ decimal f) (range_with_len b (length ks))
  names_drawn each b [] = refl
  names_drawn each b (k ∷ ks) = λ j. each b k j ∷ names_drawn each (b + 1) ks j

  values_drawn : (size : ℕ) → ((f k : ℕ) → length (draw (f, k)).values ≡ size ^ k) → (b : ℕ) (ks : List ℕ) → values_of (map draw (enumerate_from b ks)) ≡ values_needed size ks
  values_drawn size each b [] = refl
  values_drawn size each b (k ∷ ks) =
      sum_by-cons (λ (o : Operation). length o.values) (draw (b, k)) (map draw (enumerate_from (b + 1) ks))
      ∙ (λ j. each b k j + values_drawn size each (b + 1) ks j)
      ∙ sym (sum_by-cons (λ i. size ^ i) k ks)

names_differ : (n : ℕ) → n ≤ OPERATIONS → IsDistinct (pointwise nat_eq) (map (λ f. 102 ∷ decimal f) (range_with_len 0 n))
names_differ n few = IsDistinct-from_AllPairs bytes_decides (map (λ f. 102 ∷ decimal f) (range_with_len 0 n)) (λ i j d low high same.
    let count = length-map-range_with_len (λ f. 102 ∷ decimal f) 0 n in
    let left = get_or-map-range_with_len (λ f. 102 ∷ decimal f) 0 n i i d (omega (arith, low, high, count)) (omega arith) in
    let right = get_or-map-range_with_len (λ f. 102 ∷ decimal f) 0 n j j d (omega (arith, high, count)) (omega arith) in
    let e = numbered_apart i j (omega (arith, low, high, count, few)) (omega (arith, high, count, few)) (sym left ∙ same ∙ right) in
    omega (arith, e, low))

pub drawn-IsAlgebraTable : (name : List ℕ) (size s : ℕ) (arities : List ℕ) → 0 < size → size ≤ SIZE → IsShape arities → values_needed size arities ≤ VALUES → IsAlgebraTable (drawn_algebra name size s arities)
drawn-IsAlgebraTable name size s arities some small shape within =
    let draw = drawn_at size s arities in
    let each = all_both (λ k. size ^ k ≤ VALUES) (λ k. k ≤ ARITY) arities (each_within size VALUES arities within) shape.small in
    let table : (f k : ℕ) → (size ^ k ≤ VALUES) × (k ≤ ARITY) → IsTable (drawn_at size s arities (f, k)) = λ f k h. drawn-IsTable size (state_after s (values_needed size (take f arities))) f k some small h.1 h.0 in
    record {
      algebra = record {
        inhabited = some;
        operations = all_drawn draw (λ (o : Operation). (o.size ≡ size) × IsOperation o) (λ k. (size ^ k ≤ VALUES) × (k ≤ ARITY)) (λ f k h. (refl, (table f k h).operation)) 0 arities each;
      };
      small = small;
      few = (let n = length-map (enumerate_from 0 arities) draw in let m = length-enumerate_from 0 arities in let k = shape.few in omega (arith, n, m, k));
      tables = all_drawn draw IsTable (λ k. (size ^ k ≤ VALUES) × (k ≤ ARITY)) table 0 arities each;
      names = subst (IsDistinct (pointwise nat_eq)) (sym (names_drawn draw (λ f k. refl) 0 arities)) (names_differ (length arities) shape.few);
      values = (let v = values_drawn draw size (λ f k. length-map-range_with_len (λ i. drawn size (state_after (state_after s (values_needed size (take f arities))) i)) 0 (size ^ k)) 0 arities in omega (arith, v, within));
    }
