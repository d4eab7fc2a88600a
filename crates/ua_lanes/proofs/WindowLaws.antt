-- What a window tells, and that it stays true.
use Rattle.std.proofs.Common.{◌≡◌, ◌≢◌, ℕ, suc, ◌+◌, ◌*◌, ◌<◌, ◌≤◌, Bool, List, [], ◌∷◌, ◌++◌, length, get_or, set, refl, sym, ap, ◌∙◌, subst, arith, ⊎_elim}
use Rattle.std.specs.Prelude.{slice_index, slice_index_or, slice_set, Contains}
use Rattle.std.specs.List.{AllByRecursion}
use Rattle.std.proofs.Math.Seq.{take-set-lt}
use Rattle.std.proofs.lemmas.Bool.{cases_eq}
use Rattle.std.proofs.lemmas.Grind.{same_number_lists}
use Rattle.std.proofs.lemmas.List.{length-append, length-set, map-set, get_or-set_same, get_or-set_other, get_or_append_left, set-set}
use Rattle.std.proofs.lemmas.List.Elements.{Contains-append_left}
use Rattle.ua_table.specs.Algebras.{Vector, Product, IsVector, arities, apply}
use Rattle.ua_rows.specs.RowLists.{rows_at}
use Rattle.ua_columns.specs.Columns.{AreLinesOf, values_at}
use Rattle.ua_lanes.specs.Lines.{AreSizesAtMost, size_at, line_value}
use Rattle.ua_lanes.specs.Windows.{tuple_of, IsKnown, HasLines, IsWindow}
use Rattle.ua_lanes.specs.declared.windows.Window.{Window}
use Rattle.ua_table.proofs.Lists.{all_weaker, all_set, all_get_or}
use Rattle.ua_lanes.proofs.LineLaws.{lines_apply}

-- ---- tuples that agree but at one place

pub agreeing : (args fixed : List ℕ) (free : ℕ) → length args ≡ 4 → length fixed ≡ 4 → free < 4 → ((j : ℕ) → j < 4 → j ≢ free → slice_index args j ≡ slice_index fixed j) → slice_set fixed free (slice_index args free) ≡ args
agreeing args fixed free long long' low same =
    same_number_lists (set fixed free (slice_index args free)) args (length-set fixed free (slice_index args free) ∙ long' ∙ sym long)
    (λ k less. (let four : k < 4 = (let l = length-set fixed free (slice_index args free) in omega (arith, less, l, long')) in
    ⊎_elim
    (λ here.
    ap (get_or (set fixed free (slice_index args free)) k) refl ∙ (λ i. get_or (set fixed free (slice_index args free)) (here i) 0)
    ∙ get_or-set_same fixed free (slice_index args free) 0 (omega (arith, low, long')) ∙ ap (λ n. slice_index args n) (sym here))
    (λ other. get_or-set_other fixed free k (slice_index args free) 0 other ∙ sym (same k four other))
    (cases_eq k free)))

-- whatever stands there
pub agreeing_with : (args fixed : List ℕ) (free n : ℕ) → length args ≡ 4 → length fixed ≡ 4 → free < 4 → ((j : ℕ) → j < 4 → j ≢ free → slice_index args j ≡ slice_index fixed j) → slice_set fixed free n ≡ slice_set args free n
agreeing_with args fixed free n long long' low same =
    sym (set-set fixed free (slice_index args free) n) ∙ ap (λ (xs : List ℕ). slice_set xs free n) (agreeing args fixed free long long' low same)

-- ---- a bit tells of a tuple

pub told_by_value : (p : Product) (items : List Vector) (f : ℕ) (fixed : List ℕ) (free : ℕ) (i : ℕ) → free < slice_index (arities p) f
    → AllByRecursion (λ a. a < length items) (tuple_of p f fixed) → AllByRecursion (IsVector p) items → i < length items
    → Contains items (values_at (line_value p f (rows_at items (tuple_of p f fixed)) free) (slice_index_or items i [])) → IsKnown p items f (slice_set fixed free i)
told_by_value p items f fixed free i place named vectors low there =
    let k = slice_index (arities p) f in
    let tuple = tuple_of p f fixed in
    let v = slice_index_or items i [] in
    let taken : tuple_of p f (slice_set fixed free i) ≡ set tuple free i = take-set-lt k fixed free i place in
    let rows : set (rows_at items tuple) free v ≡ rows_at items (tuple_of p f (slice_set fixed free i)) = sym (map-set (λ a. slice_index_or items a []) tuple free i) ∙ ap (rows_at items) (sym taken) in
    record {
      named = subst (AllByRecursion (λ a. a < length items)) (sym taken) (all_set (λ a. a < length items) tuple free i low named);
      stands = subst (Contains items) (lines_apply p f (rows_at items tuple) free v (all_get_or (IsVector p) items i [] low vectors) ∙ ap (apply p f) rows) there;
    }

-- ---- what was told stays true as vectors are added

pub rows_more : (items more : List Vector) (args : List ℕ) → AllByRecursion (λ a. a < length items) args → rows_at (items ++ more) args ≡ rows_at items args
rows_more items more [] named = refl
rows_more items more (a ∷ args) named = λ i. get_or_append_left items more [] a named.0 i ∷ rows_more items more args named.1 i

pub named_more : (items more : List Vector) (args : List ℕ) → AllByRecursion (λ a. a < length items) args → AllByRecursion (λ a. a < length (items ++ more)) args
named_more items more args named = all_weaker (λ a. a < length items) (λ a. a < length (items ++ more)) (λ a low. (let l = length-append items more in omega (arith, low, l))) args named

pub known_more : (p : Product) (items more : List Vector) (f : ℕ) (args : List ℕ) → IsKnown p items f args → IsKnown p (items ++ more) f args
known_more p items more f args h = record {
  named = named_more items more (tuple_of p f args) h.named;
  stands = subst (Contains (items ++ more)) (ap (apply p f) (sym (rows_more items more (tuple_of p f args) h.named))) (Contains-append_left items more (apply p f (rows_at items (tuple_of p f args))) h.stands);
}

pub lines_more : (p : Product) (in_bytes : Bool) (items more : List Vector) (f : ℕ) (fixed : List ℕ) (free : ℕ) (lines : List (List (List ℕ)))
    → HasLines p in_bytes items f fixed free lines → HasLines p in_bytes (items ++ more) f fixed free lines
lines_more p in_bytes items more f fixed free lines h = record {
  operation = h.operation;
  place = h.place;
  few = h.few;
  named = named_more items more (tuple_of p f fixed) h.named;
  lines_are = subst (λ (vs : List Vector). AreLinesOf in_bytes (line_value p f vs free) lines) (sym (rows_more items more (tuple_of p f fixed) h.named)) h.lines_are;
}

pub window_more : (p : Product) (in_bytes : Bool) (items more : List Vector) (w : Window) → IsWindow p in_bytes items w → IsWindow p in_bytes (items ++ more) w
window_more p in_bytes items more w h = record {
  place = h.place;
  four = h.four;
  lines_long = h.lines_long;
  values_long = h.values_long;
  bytes = h.bytes;
  lined = λ t. lines_more p in_bytes items more w.op w.fixed w.free w.lines.items (h.lined t);
  told = λ r low bit. known_more p items more w.op (slice_set w.fixed w.free (16 * w.block + r)) (h.told r low bit);
}

-- ---- sizes and entries

pub entries_low : (p : Product) (n : ℕ) (v : Vector) → AreSizesAtMost n p → IsVector p v → AllByRecursion (λ x. x < n) v
entries_low [] n [] sizes vector = tt
entries_low [] n (x ∷ v) sizes vector = absurd vector
entries_low (a ∷ p) n [] sizes vector = absurd vector
entries_low (a ∷ p) n (x ∷ v) sizes vector = (let low = vector.0 in let s = sizes.0 in omega (arith, low, s), entries_low p n v sizes.1 vector.1)

pub sizes_by_index : (p : Product) (n : ℕ) → ((k : ℕ) → k < length p → size_at p k ≤ n) → AreSizesAtMost n p
sizes_by_index [] n each = tt
sizes_by_index (a ∷ p) n each = (each 0 (omega arith), sizes_by_index p n (λ k low. each (suc k) (omega (arith, low))))
