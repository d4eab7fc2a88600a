-- The tuples of a slice, gone over one after another.
use Rattle.std.proofs.Common.{◌≡◌, ◌↔◌, ℕ, ◌%◌, ◌<◌, List, [], ◌∷◌, length, map, take, sym, subst}
use Rattle.std.proofs.Math.Nat.{mod-lt}
use Rattle.std.specs.Prelude.{Contains, slice_index, sum}
use Rattle.std.specs.List.{AllByRecursion}
use Rattle.ua_table.specs.Algebras.{Vector, Product, arities, apply}
use Rattle.ua_table.specs.Numbering.{IsShape, four_places}
use Rattle.ua_table.specs.Slices.{bound, slice_operation, slice_tuples, slice_unit}
use Rattle.ua_table.proofs.Lists.{Contains-head, Contains-tail}
use Rattle.ua_table.proofs.Rows.{slices_of_rows}
use Rattle.ua_table.proofs.Units.{place_from}
use Rattle.ua_table.proofs.SliceLaws.{bound_laws}
use Rattle.ua_rows.specs.RowLists.{rows_at}
use Rattle.ua_rows.specs.Results.{HasResults}
use Rattle.ua_rows.proofs.RowLaws.{slice_places}

module _ (p : Product) (rows : List Vector) (seen s : ℕ) where
  abbrev ks : List ℕ
  ks = arities p

  abbrev f : ℕ
  f = slice_operation ks s

  -- the places of a tuple that has zeros after them
  abbrev pub places : List ℕ → List ℕ
  places args = take (slice_index ks f) args

  -- its result is among the first rows
  abbrev pub HasResult : List ℕ → Type 0
  HasResult args = Contains (take seen rows) (apply p f (rows_at rows (places args)))

  -- all results are among the first rows where those of the tuples that are left are, which name rows
  pub record IsWalk (left : List (List ℕ)) : Type 0 where
    pub results : AllByRecursion HasResult left ↔ HasResults p rows seen s
    pub named : AllByRecursion (λ args. AllByRecursion (λ k. k < length rows) (places args)) left

  pub walk_start : IsShape ks → s < bound ks (length rows) → IsWalk (map (four_places ks f) (slice_tuples ks s))
  walk_start shape below = record { results = (whole tuples (λ x c. c), padded tuples (λ x c. c)); named = named_all tuples (λ x c. c) }
    where
      tuples : List (List ℕ)
      tuples = slice_tuples ks s

      taken : (tuple : List ℕ) → Contains (slice_tuples ks s) tuple → places (four_places ks f tuple) ≡ tuple
      taken tuple c = (slices_of_rows ks s tuple ((bound_laws ks shape).some (length rows) s below) c).taken

      R : List ℕ → Type 0
      R tuple = Contains (take seen rows) (apply p f (rows_at rows tuple))

      whole : (ts : List (List ℕ)) → ((x : List ℕ) → Contains ts x → Contains (slice_tuples ks s) x)
          → AllByRecursion HasResult (map (four_places ks f) ts)
          → AllByRecursion (λ tuple. Contains (take seen rows) (apply p f (rows_at rows tuple))) ts
      whole [] sub h = tt
      whole (t ∷ ts) sub h = (subst (λ x. Contains (take seen rows) (apply p f (rows_at rows x))) (taken t (sub t (Contains-head t ts))) h.0, whole ts (λ x c. sub x (Contains-tail t x ts c)) h.1)

      padded : (ts : List (List ℕ)) → ((x : List ℕ) → Contains ts x → Contains (slice_tuples ks s) x)
          → AllByRecursion (λ tuple. Contains (take seen rows) (apply p f (rows_at rows tuple))) ts
          → AllByRecursion HasResult (map (four_places ks f) ts)
      padded [] sub h = tt
      padded (t ∷ ts) sub h = (subst (λ x. Contains (take seen rows) (apply p f (rows_at rows x))) (sym (taken t (sub t (Contains-head t ts)))) h.0, padded ts (λ x c. sub x (Contains-tail t x ts c)) h.1)

      named_all : (ts : List (List ℕ)) → ((x : List ℕ) → Contains ts x → Contains (slice_tuples ks s) x) → AllByRecursion (λ args. AllByRecursion (λ k. k < length rows) (places args)) (map (four_places ks f) ts)
      named_all [] sub = tt
      named_all (t ∷ ts) sub =
          let c = sub t (Contains-head t ts) in
          (subst (AllByRecursion (λ k. k < length rows)) (sym (taken t c)) (slice_places ks (length rows) s t shape below c), named_all ts (λ x d. sub x (Contains-tail t x ts d)))

  -- one tuple further
  pub walk_on : (args : List ℕ) (left : List (List ℕ)) → IsWalk (args ∷ left) → HasResult args → IsWalk left
  walk_on args left w h = record { results = ((λ rest. w.results.0 (h, rest)), (λ all. (w.results.1 all).1)); named = w.named.1 }

  -- the end of the walk
  pub walk_end : IsWalk [] → HasResults p rows seen s
  walk_end w = w.results.0 tt

  pub walk_fails : (args : List ℕ) (left : List (List ℕ)) → IsWalk (args ∷ left) → ¬ HasResult args → ¬ HasResults p rows seen s
  walk_fails args left w lacks all = lacks (w.results.1 all).0

-- the operation of a slice is one of the product
pub slice_operation_low : (ks : List ℕ) (r s : ℕ) → IsShape ks → s < bound ks r → slice_operation ks s < length ks
slice_operation_low ks r s shape below =
    let some = (bound_laws ks shape).some r s below in
    (place_from ks (slice_unit ks s % sum ks) (mod-lt (slice_unit ks s) some)).operation
