-- The operations of some different numbers: as many values as all operations at most, and no name twice.
use Rattle.std.proofs.Common.{◌≡◌, ◌≢◌, ℕ, suc, ◌+◌, ◌<◌, ◌≤◌, true, false, ◌||◌, List, [], ◌∷◌, ◌++◌, length, map, get_or, set, refl, sym, ap, ◌∙◌, subst, arith, ⊎_elim, Some, length-set}
use Rattle.std.specs.Prelude.{nat_eq, slice_index, slice_index_or, slice_get}
use Rattle.std.specs.List.{AllByRecursion, IsDistinct, list_any}
use Rattle.std.specs.Option.{option_to_list}
use Rattle.std.specs.Cmp.Lexicographic.{pointwise, bytes_decides}
use Rattle.std.proofs.lemmas.Bool.{cases_lt, cases_eq, eq-eqb, ne_eqb}
use Rattle.std.proofs.lemmas.Bool.Decides.{Decides-eqb}
use Rattle.std.proofs.lemmas.List.{append_assoc, get_or-map, get_or-set_other, length-map}
use Rattle.std.proofs.lemmas.List.Elements.{All-from_recursion}
use Rattle.std.proofs.lemmas.Map.Keys.{IsDistinct-head, IsDistinct-tail}
use Rattle.std.proofs.lemmas.Map.Made.{AllPairs-from_IsDistinct, IsDistinct-from_AllPairs}
use Rattle.std.proofs.lemmas.Map.Steps.{length-le_from_distinct_below}
use Rattle.std.proofs.lemmas.Option.{slice_get-get_or, get_or_from_slice_get}
use Rattle.ua_table.specs.Algebras.{FiniteAlgebra, Operation, IsOperation, names_of, values_of}
use Rattle.ua_table.specs.Tables.{IsTable, IsAlgebraTable}
use Rattle.ua_table.specs.Counting.{total}
use Rattle.ua_table.proofs.Counts.{total-set, total-sum_by, total-map}
use Rattle.ua_table.proofs.Lists.{found, All-slice_get, mapped_at}
use Rattle.ua_prod.specs.Constructions.{operations_at, reduct_of}

-- ---- different places of a list have together at most what all have

passed_over : (ws : List ℕ) (x : ℕ) (fs : List ℕ) → AllByRecursion (λ y. nat_eq x y ≡ false) fs → total (slice_index ws) fs ≡ total (slice_index (set ws x 0)) fs
passed_over ws x [] h = refl
passed_over ws x (f ∷ fs) h =
    let apart : f ≢ x = (λ e. let same = eq-eqb x f (sym e) in let other = h.0 in cc) in
    let kept : slice_index (set ws x 0) f ≡ slice_index ws f = get_or-set_other ws x f 0 0 apart in
    let rest = passed_over ws x fs h.1 in
    omega (arith, kept, rest)

pub total-different : (ws fs : List ℕ) → IsDistinct nat_eq fs → AllByRecursion (λ f. f < length ws) fs → total (slice_index ws) fs ≤ total (λ w. w) ws
total-different ws [] d h = omega arith
total-different ws (x ∷ fs) d h =
    let there = slice_get-get_or ws x 0 h.0 in
    let moved = total-set (λ w. w) ws x (slice_index ws x) 0 there in
    let long : length (set ws x 0) ≡ length ws = length-set ws x 0 in
    let rest = total-different (set ws x 0) fs (IsDistinct-tail nat_eq x fs d) (subst (λ n. AllByRecursion (λ f. f < n) fs) (sym long) h.1) in
    let same = passed_over ws x fs (IsDistinct-head nat_eq x fs d) in
    omega (arith, moved, rest, same)

any_below : (n q : ℕ) (fs : List ℕ) → AllByRecursion (λ f. f < n) fs → list_any (nat_eq q) fs ≡ true → q < n
any_below n q [] h e = cc
any_below n q (f ∷ fs) h e =
    ⊎_elim
    (λ same. omega (arith, same, h.0))
    (λ apart. any_below n q fs h.1 (sym (ap (λ b. b || list_any (nat_eq q) fs) (ne_eqb q f apart)) ∙ e))
    (cases_eq q f)

pub few_different : (n : ℕ) (fs : List ℕ) → IsDistinct nat_eq fs → AllByRecursion (λ f. f < n) fs → length fs ≤ n
few_different n fs d h = length-le_from_distinct_below fs n d (λ q e. any_below n q fs h e)

-- ---- the operations of some numbers

-- one operation more
pub operations_more : (os : List Operation) (fs gs : List ℕ) (f : ℕ) (o : Operation) → gs ≡ fs ++ f ∷ [] → slice_get os f ≡ Some o → operations_at os gs ≡ operations_at os fs ++ o ∷ []
operations_more os [] gs f o e there = ap (operations_at os) e ∙ ap (λ r. option_to_list r ++ []) there
operations_more os (g ∷ fs) gs f o e there =
    ap (operations_at os) e
    ∙ ap (λ ps. option_to_list (slice_get os g) ++ ps) (operations_more os fs (fs ++ f ∷ []) f o refl there)
    ∙ sym (append_assoc (option_to_list (slice_get os g)) (operations_at os fs) (o ∷ []))

-- the first of these numbers has an operation
first_stands : (os : List Operation) (f : ℕ) (fs : List ℕ) (o : Operation) → slice_get os f ≡ Some o → operations_at os (f ∷ fs) ≡ o ∷ operations_at os fs
first_stands os f fs o e = ap (λ r. option_to_list r ++ operations_at os fs) e

module _ (os : List Operation) where
  abbrev width : Operation → ℕ
  width o = length o.values

  pub operations_hold : (P : Operation → Type 0) → AllByRecursion P os → (fs : List ℕ) → AllByRecursion (λ f. f < length os) fs → AllByRecursion P (operations_at os fs)
  operations_hold P all [] h = tt
  operations_hold P all (f ∷ fs) h =
      let o = found os f h.0 in
      subst (AllByRecursion P) (sym (first_stands os f fs o.0 o.1)) (All-slice_get P os f o.0 all o.1, operations_hold P all fs h.1)

  pub operations_count : (fs : List ℕ) → AllByRecursion (λ f. f < length os) fs → length (operations_at os fs) ≡ length fs
  operations_count [] h = refl
  operations_count (f ∷ fs) h = let o = found os f h.0 in ap length (first_stands os f fs o.0 o.1) ∙ ap suc (operations_count fs h.1)

  operations_total : (fs : List ℕ) → AllByRecursion (λ f. f < length os) fs → total width (operations_at os fs) ≡ total (slice_index (map width os)) fs
  operations_total [] h = refl
  operations_total (f ∷ fs) h =
      let o = found os f h.0 in
      let is : slice_index (map width os) f ≡ length o.0.values = get_or_from_slice_get (map width os) f (length o.0.values) 0 (mapped_at width os f o.0 o.1) in
      ap (total width) (first_stands os f fs o.0 o.1) ∙ (λ i. sym is i + operations_total fs h.1 i)

  pub operations_values : (fs : List ℕ) → IsDistinct nat_eq fs → AllByRecursion (λ f. f < length os) fs → values_of (operations_at os fs) ≤ values_of os
  operations_values fs d h =
      let n = length-map os width in
      let some = total-different (map width os) fs d (subst (λ m. AllByRecursion (λ f. f < m) fs) (sym n) h) in
      let left = operations_total fs h in
      let right = total-map width (λ w. w) os in
      let one = total-sum_by width (operations_at os fs) in
      let two = total-sum_by width os in
      omega (arith, some, left, right, one, two)

  abbrev name_at : ℕ → List ℕ
  name_at f = slice_index_or (names_of os) f []

  operations_names : (fs : List ℕ) → AllByRecursion (λ f. f < length os) fs → names_of (operations_at os fs) ≡ map name_at fs
  operations_names [] h = refl
  operations_names (f ∷ fs) h =
      let o = found os f h.0 in
      let is : slice_index_or (names_of os) f [] ≡ o.0.name = get_or_from_slice_get (names_of os) f o.0.name [] (mapped_at (λ (w : Operation). w.name) os f o.0 o.1) in
      ap names_of (first_stands os f fs o.0 o.1) ∙ (λ i. sym is i ∷ operations_names fs h.1 i)

  pub operations_apart : (fs : List ℕ) → IsDistinct (pointwise nat_eq) (names_of os) → IsDistinct nat_eq fs → AllByRecursion (λ f. f < length os) fs → IsDistinct (pointwise nat_eq) (names_of (operations_at os fs))
  operations_apart fs names d h = subst (IsDistinct (pointwise nat_eq)) (sym (operations_names fs h)) (IsDistinct-from_AllPairs bytes_decides (map name_at fs) apart)
    where
      apart : (i j : ℕ) (e : List ℕ) → i < j → j < length (map name_at fs) → get_or (map name_at fs) i e ≢ get_or (map name_at fs) j e
      apart i j e low high same =
          let n = length-map fs name_at in
          let m = length-map os (λ (w : Operation). w.name) in
          let below = All-from_recursion (λ f. f < length os) fs h in
          let x = get_or fs i 0 in
          let y = get_or fs j 0 in
          let other : get_or fs i 0 ≢ get_or fs j 0 = AllPairs-from_IsDistinct Decides-eqb fs d i j 0 low (omega (arith, high, n)) in
          let pairs = AllPairs-from_IsDistinct bytes_decides (names_of os) names in
          let left = below i 0 (omega (arith, low, high, n)) in
          let right = below j 0 (omega (arith, high, n)) in
          let one : get_or (map name_at fs) i e ≡ name_at (get_or fs i 0) = get_or-map name_at fs i 0 e (omega (arith, low, high, n)) in
          let two : get_or (map name_at fs) j e ≡ name_at (get_or fs j 0) = get_or-map name_at fs j 0 e (omega (arith, high, n)) in
          let both : name_at (get_or fs i 0) ≡ name_at (get_or fs j 0) = sym one ∙ same ∙ two in
          ⊎_elim
          (λ less. pairs x y [] less (omega (arith, right, m)) both)
          (λ more. pairs y x [] (omega (arith, more, other)) (omega (arith, left, m)) (sym both))
          (cases_lt (get_or fs i 0) (get_or fs j 0))

-- the reduct is an algebra within the limits
pub reduct-IsAlgebraTable : (name : List ℕ) (a : FiniteAlgebra) (fs : List ℕ) → IsAlgebraTable a → IsDistinct nat_eq fs → AllByRecursion (λ f. f < length a.operations) fs → IsAlgebraTable (reduct_of name a fs)
reduct-IsAlgebraTable name a fs t d h = record {
  algebra = record {
    inhabited = t.algebra.inhabited;
    operations = operations_hold a.operations (λ (o : Operation). (o.size ≡ a.size) × IsOperation o) t.algebra.operations fs h;
  };
  small = t.small;
  few = (let n = operations_count a.operations fs h in let m = few_different (length a.operations) fs d h in let k = t.few in omega (arith, n, m, k));
  tables = operations_hold a.operations IsTable t.tables fs h;
  names = operations_apart a.operations fs t.names d h;
  values = (let n = operations_values a.operations fs d h in let k = t.values in omega (arith, n, k));
}
