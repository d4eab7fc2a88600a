-- Classes of rows by their parts.
use Rattle.std.proofs.Common.{◌≡◌, ℕ, ◌+◌, ◌<◌, ◌≤◌, List, [], ◌∷◌, ◌++◌, length, sym, ap, ◌∙◌, subst, arith, Some, ⊎_elim}
use Rattle.std.specs.Prelude.{slice_get, slice_index}
use Rattle.std.specs.List.{AllByRecursion}
use Rattle.std.proofs.lemmas.List.{get_or_append_left, get_or_at, get_or_default}
use Rattle.std.proofs.lemmas.List.Elements.{recursion_from_All}
use Rattle.std.proofs.lemmas.Option.{slice_get_within, same_Some}
use Rattle.std.proofs.lemmas.Bool.{cases_lt}
use Rattle.ua_listing.proofs.SearchLaws.{one_row}
use Rattle.ua_table.specs.Algebras.{Vector}
use Rattle.ua_table.proofs.Lists.{found}
use Rattle.ua_rows.specs.RowLists.{IsRowList}
use Rattle.ua_climb.specs.Ladders.{LinkLists, AreLinks}
use Rattle.ua_identity.specs.declared.kinds.CoordinateRange.{CoordinateRange}
use Rattle.ua_chain.specs.inner.Classes.{entries_at, AreClasses, AreLinksBy}

-- the class of one row more
pub places_more : (vs : List Vector) (p : CoordinateRange) (keys keys' : List Vector) (classes : List ℕ) (i c : ℕ) (row : Vector)
    → ((j : ℕ) (v : Vector) → j < i → slice_get vs j ≡ Some v → slice_get keys (slice_index classes j) ≡ Some (entries_at p v))
    → ((j : ℕ) (v : Vector) → slice_get keys j ≡ Some v → slice_get keys' j ≡ Some v) → length classes ≡ i → slice_get vs i ≡ Some row
    → slice_get keys' c ≡ Some (entries_at p row) → (j : ℕ) (v : Vector) → j < i + 1 → slice_get vs j ≡ Some v
    → slice_get keys' (slice_index (classes ++ c ∷ []) j) ≡ Some (entries_at p v)
places_more vs p keys keys' classes i c row old kept long at here j v l e =
    ⊎_elim
    (λ (low : j < i). ap (slice_get keys') (get_or_append_left classes (c ∷ []) 0 j (omega (arith, low, long))) ∙ kept (slice_index classes j) (entries_at p v) (old j v low e))
    (λ high. let same : j ≡ i = omega (arith, l, high) in
    let row_is : row ≡ v = same_Some row v (sym at ∙ ap (slice_get vs) (sym same) ∙ e) in
    ap (slice_get keys') (ap (slice_index (classes ++ c ∷ [])) same ∙ get_or_at classes c [] 0 i long) ∙ here ∙ ap (λ (w : Vector). Some (entries_at p w)) row_is)
    (cases_lt j i)

-- the classes stay when keys are added
pub classes_kept : (vs : List Vector) (p : CoordinateRange) (keys keys' : List Vector) (classes : List ℕ) → AreClasses vs p keys classes
    → ((j : ℕ) (v : Vector) → slice_get keys j ≡ Some v → slice_get keys' j ≡ Some v) → AreClasses vs p keys' classes
classes_kept vs p keys keys' classes h kept = record { count = h.count; places = λ i v e. kept (slice_index classes i) (entries_at p v) (h.places i v e) }

-- classes are places of keys
classes_below : (vs : List Vector) (p : CoordinateRange) (keys : List Vector) (classes : List ℕ) → AreClasses vs p keys classes → AllByRecursion (λ c. c < length keys) classes
classes_below vs p keys classes h =
    recursion_from_All (λ c. c < length keys) classes (λ i d l.
    let v = found vs i (let n = h.count in omega arith) in
    subst (λ c. c < length keys) (get_or_default classes i 0 d l) (slice_get_within keys (slice_index classes i) (entries_at p v.0) (h.places i v.0 v.1)))

pub are_links : (vs : List Vector) (p q : CoordinateRange) (keys : List Vector) (leads enters : List ℕ) (count : ℕ) → AreClasses vs p keys leads → AreClasses vs q keys enters → count ≡ length keys → AreLinks leads enters count
are_links vs p q keys leads enters count a b n = record {
  same = b.count ∙ sym a.count;
  leads_below = subst (λ m. AllByRecursion (λ c. c < m) leads) (sym n) (classes_below vs p keys leads a);
  enters_below = subst (λ m. AllByRecursion (λ c. c < m) enters) (sym n) (classes_below vs q keys enters b);
}

pub are_links_by : (vs : List Vector) (p q : CoordinateRange) (width : ℕ) (keys : List Vector) (leads enters : List ℕ) (links : LinkLists)
    → AreClasses vs p keys leads → AreClasses vs q keys enters → IsRowList width keys → length keys ≤ length vs + length vs → links.leads ≡ leads
    → links.enters ≡ enters → links.classes ≡ length keys → AreLinksBy vs p q links
are_links_by vs p q width keys leads enters links a b rows few l e n = record {
  count = ap length l ∙ a.count;
  few = omega (arith, few, n);
  joins = λ i j v w x y.
      let left : slice_get keys (slice_index links.leads i) ≡ Some (entries_at p v) = ap (λ (cs : List ℕ). slice_get keys (slice_index cs i)) l ∙ a.places i v x in
      let right : slice_get keys (slice_index links.enters j) ≡ Some (entries_at q w) = ap (λ (cs : List ℕ). slice_get keys (slice_index cs j)) e ∙ b.places j w y in (
        λ same. same_Some (entries_at p v) (entries_at q w) (sym left ∙ ap (slice_get keys) same ∙ right),
        λ same. one_row keys rows.different (slice_index links.leads i) (slice_index links.enters j) (entries_at q w) (left ∙ ap Some same) right,
      );
}
