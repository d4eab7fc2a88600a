-- The first value of an operation that is no row, operation by operation.
use Rattle.std.proofs.Common.{◌≡◌, ℕ, suc, ◌+◌, ◌-◌, ◌<◌, ◌≤◌, Option, Some, None, List, [], ◌∷◌, length, map, sym, ap, ◌∙◌, arith}
use Rattle.std.specs.Prelude.{slice_get, slice_index, find}
use Rattle.std.specs.List.{range_with_len}
use Rattle.std.specs.Option.{option_map}
use Rattle.std.proofs.lemmas.List.{length-map}
use Rattle.std.proofs.lemmas.Option.{get_or_from_slice_get}
use Rattle.ua_table.specs.Algebras.{Vector, Operation, FiniteAlgebra, Product, arities, power}
use Rattle.ua_table.specs.Refusals.{first_refusal}
use Rattle.ua_table.proofs.Lists.{mapped_at}
use Rattle.ua_table.proofs.FrameLaws.{arities_of_power}
use Rattle.ua_term.specs.Assignments.{assignments}
use Rattle.ua_flaws.specs.inner.Firsts.{first_behind}
use Rattle.ua_flaws.specs.Closing.{is_missing, missing_of, missing}
use Rattle.ua_flaws.proofs.WalkLaws.{map-same}

module _ (p : Product) (rows : List Vector) (f : ℕ) where
  -- an operation's first value that is no row
  pub of_operation : (k : ℕ) → k ≡ slice_index (arities p) f → missing_of p rows f ≡ option_map (λ (tuple : List ℕ). (f, tuple)) (first_behind (is_missing p rows f) (length rows) [] (k - 0))
  of_operation k e =
      let z : slice_index (arities p) f ≡ k - 0 = omega (arith, e) in
      let all = find (is_missing p rows f) (assignments (length rows) (slice_index (arities p) f)) in
      ap (option_map (λ (tuple : List ℕ). (f, tuple))) (sym (map-same all) ∙ ap (first_behind (is_missing p rows f) (length rows) []) z)

-- ---- operation by operation

module _ (p : Product) (rows : List Vector) where
  abbrev pub over : ℕ → ℕ → Option (ℕ × List ℕ)
  over f m = first_refusal (map (missing_of p rows) (range_with_len f m))

  passed_over : (o : Option (ℕ × List ℕ)) (os : List (Option (ℕ × List ℕ))) → o ≡ None → first_refusal (o ∷ os) ≡ first_refusal os
  passed_over o os e = ap (λ z. first_refusal (z ∷ os)) e

  pub next_operation : (n f : ℕ) → f < n → missing_of p rows f ≡ None → over f (n - f) ≡ over (f + 1) (n - (f + 1))
  next_operation n f h none =
      let m : n - f ≡ suc (n - (f + 1)) = omega (arith, h) in
      ap (over f) m ∙ passed_over (missing_of p rows f) (map (missing_of p rows) (range_with_len (f + 1) (n - (f + 1)))) none

  pub this_operation : (n f : ℕ) (r : ℕ × List ℕ) → f < n → missing_of p rows f ≡ Some r → over f (n - f) ≡ Some r
  this_operation n f r h some =
      let m : n - f ≡ suc (n - (f + 1)) = omega (arith, h) in
      ap (over f) m ∙ ap (λ z. first_refusal (z ∷ map (missing_of p rows) (range_with_len (f + 1) (n - (f + 1))))) some

  pub no_operation : (n f : ℕ) → n ≤ f → over f (n - f) ≡ None
  no_operation n f h = let m : n - f ≡ 0 = omega (arith, h) in ap (over f) m

-- ---- of an algebra

-- the arity of an operation of a power is its table's
pub arity_at : (a : FiniteAlgebra) (width : ℕ) (p : Product) (f : ℕ) (o : Operation) → p ≡ power a width → 0 < width → slice_get a.operations f ≡ Some o → o.arity ≡ slice_index (arities p) f
arity_at a width p f o e some at =
    sym (get_or_from_slice_get (map (λ (w : Operation). w.arity) a.operations) f o.arity 0 (mapped_at (λ (w : Operation). w.arity) a.operations f o at))
    ∙ ap (λ (ks : List ℕ). slice_index ks f) (sym (ap arities e ∙ arities_of_power a width some))

pub operations_count : (a : FiniteAlgebra) (width : ℕ) (p : Product) → p ≡ power a width → 0 < width → length (arities p) ≡ length a.operations
operations_count a width p e some = ap length (ap arities e ∙ arities_of_power a width some) ∙ length-map a.operations (λ (w : Operation). w.arity)

pub operations_begin : (a : FiniteAlgebra) (width : ℕ) (p : Product) (rows : List Vector) → p ≡ power a width → 0 < width → missing p rows ≡ over p rows 0 (length a.operations - 0)
operations_begin a width p rows e some = let n : length (arities p) ≡ length a.operations - 0 = omega (arith, operations_count a width p e some) in ap (over p rows 0) n
