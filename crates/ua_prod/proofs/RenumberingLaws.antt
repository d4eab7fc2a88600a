-- Algebras whose elements stand for some elements of another are within the limits.
use Rattle.std.proofs.Common.{◌≡◌, ℕ, zero, suc, ◌^◌, true, false, ◌<◌, ◌≤◌, List, [], ◌∷◌, length, map, refl, sym, ◌∙◌, subst, arith}
use Rattle.std.specs.Prelude.{Result, Ok, Err, IsOk, slice_index, nat_eq}
use Rattle.std.specs.List.{AllByRecursion, IsDistinct}
use Rattle.std.specs.Cmp.Lexicographic.{pointwise}
use Rattle.std.proofs.Math.Nat.{pow-le-pow_left}
use Rattle.std.proofs.lemmas.List.{length-map}
use Rattle.std.proofs.lemmas.List.Sums.{sum_by-cons}
use Rattle.std.proofs.lemmas.Simd.{map-map}
use Rattle.ua_table.specs.Algebras.{FiniteAlgebra, Operation, IsOperation, values_of}
use Rattle.ua_table.specs.Tables.{IsTable, IsAlgebraTable}
use Rattle.ua_prod.specs.Constructions.{value_of, tuples_among, renumbered, algebra_among}
use Rattle.ua_prod.proofs.TupleLaws.{count_tuples}

-- an error is no success
pub refused : {A E : Type 0} (r : Result A E) (e : E) → r ≡ Err e → IsOk r → ⊥
refused (Ok x) e same ok = cc
refused (Err f) e same ok = let bad : false ≡ true = ok in cc

-- what is read of a list is below k where its members are, and 0 is
pub read_below : (k : ℕ) (xs : List ℕ) (i : ℕ) → 0 < k → AllByRecursion (λ x. x < k) xs → slice_index xs i < k
read_below k [] i some h = some
read_below k (x ∷ xs) zero some h = h.0
read_below k (x ∷ xs) (suc i) some h = read_below k xs i some h.1

pub all_mapped : {X : Type 0} (P : ℕ → Type 0) (f : X → ℕ) → ((x : X) → P (f x)) → (xs : List X) → AllByRecursion P (map f xs)
all_mapped P f each [] = tt
all_mapped P f each (x ∷ xs) = (each x, all_mapped P f each xs)

pub all_both : {X : Type 0} (P Q : X → Type 0) (xs : List X) → AllByRecursion P xs → AllByRecursion Q xs → AllByRecursion (λ x. P x × Q x) xs
all_both P Q [] h k = tt
all_both P Q (x ∷ xs) h k = ((h.0, k.0), all_both P Q xs h.1 k.1)

module _ (members numbers : List ℕ) (some : 0 < length members) (n : ℕ) (few : length members ≤ n) (below : AllByRecursion (λ x. x < length members) numbers) where
  as_many : (o : Operation) → length (renumbered members numbers o).values ≡ length members ^ o.arity
  as_many o = length-map (tuples_among members o.arity) (λ args. slice_index numbers (value_of o args)) ∙ count_tuples members o.arity

  no_more : (o : Operation) → IsTable o → o.size ≡ n → length (renumbered members numbers o).values ≤ length o.values
  no_more o h size =
      let power = pow-le-pow_left {n = length members} {m = o.size} (omega (arith, few, size)) o.arity in
      let total = h.operation.total in
      omega (arith, as_many o, power, total)

  pub renumbered-IsTable : (o : Operation) → IsTable o → o.size ≡ n → IsTable (renumbered members numbers o)
  renumbered-IsTable o h size = record {
    inhabited = some;
    small = (let s = h.small in omega (arith, few, size, s));
    arity = h.arity;
    operation = record {
      total = as_many o;
      below = all_mapped (λ v. v < length members) (λ args. slice_index numbers (value_of o args)) (λ args. read_below (length members) numbers (value_of o args) some below) (tuples_among members o.arity);
    };
    values = (let v = h.values in omega (arith, no_more o h size, v));
    free = h.free;
  }

  tables_kept : (os : List Operation) → AllByRecursion IsTable os → AllByRecursion (λ (o : Operation). (o.size ≡ n) × IsOperation o) os → AllByRecursion IsTable (map (renumbered members numbers) os)
  tables_kept [] h k = tt
  tables_kept (o ∷ os) h k = (renumbered-IsTable o h.0 k.0.0, tables_kept os h.1 k.1)

  operations_kept : (os : List Operation) → AllByRecursion IsTable os → AllByRecursion (λ (o : Operation). (o.size ≡ n) × IsOperation o) os
      → AllByRecursion (λ (o : Operation). (o.size ≡ length members) × IsOperation o) (map (renumbered members numbers) os)
  operations_kept [] h k = tt
  operations_kept (o ∷ os) h k = ((refl, (renumbered-IsTable o h.0 k.0.0).operation), operations_kept os h.1 k.1)

  values_kept : (os : List Operation) → AllByRecursion IsTable os → AllByRecursion (λ (o : Operation). (o.size ≡ n) × IsOperation o) os → values_of (map (renumbered members numbers) os) ≤ values_of os
  values_kept [] h k = omega arith
  values_kept (o ∷ os) h k =
      let one = sum_by-cons (λ (w : Operation). length w.values) (renumbered members numbers o) (map (renumbered members numbers) os) in
      let two = sum_by-cons (λ (w : Operation). length w.values) o os in
      omega (arith, one, two, no_more o h.0 k.0.0, values_kept os h.1 k.1)

  pub among-IsAlgebraTable : (name : List ℕ) (a : FiniteAlgebra) → IsAlgebraTable a → a.size ≡ n → IsAlgebraTable (algebra_among name a members numbers)
  among-IsAlgebraTable name a h size =
      let sized = subst (λ m. AllByRecursion (λ (o : Operation). (o.size ≡ m) × IsOperation o) a.operations) size h.algebra.operations in
      record {
        algebra = record { inhabited = some; operations = operations_kept a.operations h.tables sized };
        small = (let s = h.small in omega (arith, few, size, s));
        few = (let f = h.few in let l = length-map a.operations (renumbered members numbers) in omega (arith, f, l));
        tables = tables_kept a.operations h.tables sized;
        names = subst (IsDistinct (pointwise nat_eq)) (sym (map-map (λ (o : Operation). o.name) (renumbered members numbers) a.operations)) h.names;
        values = (let v = h.values in let k = values_kept a.operations h.tables sized in omega (arith, k, v));
      }
