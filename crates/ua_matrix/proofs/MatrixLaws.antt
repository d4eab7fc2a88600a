-- Matrices are vectors of the fourth power, and what a listing of all of them tells.
use Rattle.std.proofs.Common.{◌≡◌, ℕ, ◌<◌, Bool, true, false, cond, List, [], ◌∷◌, replicate, refl, Ok, Err, arith}
use Rattle.std.specs.Prelude.{Result, IfOk}
use Rattle.std.specs.List.{AllByRecursion}
use Rattle.ua_table.specs.Algebras.{Vector, FiniteAlgebra, IsAlgebra, IsProduct, IsVector}
use Rattle.ua_table.specs.Listings.{Row, vectors_of, IsListing, IsClosedListing}
use Rattle.ua_table.specs.Orders.{IsSerialListing}
use Rattle.ua_table.proofs.ListingLaws.{vector_in, closed_has_no_more}
use Rattle.ua_table.proofs.Lists.{all_map, all_weaker, all_from_contains}
use Rattle.ua_close.specs.declared.close.Closure.{Closure}
use Rattle.ua_close.specs.declared.close.Closure.TheVariants.{Closed, Exceeds}
use Rattle.ua_close.specs.declared.close.CloseError.{CloseError}
use Rattle.ua_close.specs.Answers.{IsWide, rows_in}
use Rattle.ua_close.specs.Permitted.{MayClose}
use Rattle.ua_part.specs.Partitions.{Partition}
use Rattle.ua_prod.specs.Congruences.{IsCongruence}
use Rattle.ua_matrix.specs.declared.centrality.Central.{Central}
use Rattle.ua_matrix.specs.declared.centrality.Central.TheVariants as answers
use Rattle.ua_matrix.specs.Centrality.{Variable, IsRelated}
use Rattle.ua_matrix.specs.Matrices.{variables_of, matrix_of, matrix_generators, IsMatrix, AreFour}
use Rattle.ua_matrix.specs.inner.Answers.{IsJudged}
use Rattle.ua_matrix.specs.Permitted.{MayBeCentral}
use Rattle.ua_matrix.proofs.Deciding.{variables_related}
use Rattle.ua_matrix.proofs.CentralLaws.{first_in, second_in}

-- ---- the fourth power

pub fourth_product : (a : FiniteAlgebra) → IsAlgebra a → IsProduct (replicate 4 a)
fourth_product a alg = record { wide = omega arith; algebras = (alg, (alg, (alg, (alg, tt)))); similar = (refl, (refl, (refl, (refl, tt)))) }

four_from_vector : (a : FiniteAlgebra) (m : Vector) → IsVector (replicate 4 a) m → AreFour a.size m
four_from_vector a [] h = absurd h
four_from_vector a (p ∷ []) h = absurd h.1
four_from_vector a (p ∷ q ∷ []) h = absurd h.1.1
four_from_vector a (p ∷ q ∷ r ∷ []) h = absurd h.1.1.1
four_from_vector a (p ∷ q ∷ r ∷ s ∷ []) h = record { width = refl; below = (h.0, (h.1.0, (h.1.1.0, (h.1.1.1.0, tt)))) }
four_from_vector a (p ∷ q ∷ r ∷ s ∷ t ∷ rest) h = absurd h.1.1.1.1

module _ (a : FiniteAlgebra) (alpha beta : Partition) (ca : IsCongruence a alpha) (cb : IsCongruence a beta) where
  matrix_vector : (v : Variable) → IsRelated alpha beta v → IsVector (replicate 4 a) (matrix_of v)
  matrix_vector v h = by v.is_alpha (first_in a alpha beta ca cb v h) (second_in a alpha beta ca cb v h)
    where
      by : (b : Bool) → v.first < a.size → v.second < a.size → IsVector (replicate 4 a) (v.first ∷ (cond b v.first v.second) ∷ (cond b v.second v.first) ∷ v.second ∷ [])
      by true x y = (x, (x, (y, (y, tt))))
      by false x y = (x, (y, (x, (y, tt))))

  pub generators_vectors : AllByRecursion (IsVector (replicate 4 a)) (matrix_generators alpha beta)
  generators_vectors = all_map (IsVector (replicate 4 a)) matrix_of (variables_of alpha beta)
      (all_weaker (IsRelated alpha beta) (λ v. IsVector (replicate 4 a) (matrix_of v)) matrix_vector (variables_of alpha beta) (variables_related alpha beta))

-- ---- what a closure of the matrices has

module _ (a : FiniteAlgebra) (alpha beta : Partition) (vectors : (v : Vector) → IsMatrix a alpha beta v → IsVector (replicate 4 a) v) where
  pub rows_four : (rows : List Row) → IsListing (replicate 4 a) (matrix_generators alpha beta) rows → AllByRecursion (AreFour a.size) (vectors_of rows)
  rows_four rows listing = all_from_contains (AreFour a.size) (vectors_of rows)
      (λ m c. four_from_vector a m (vectors m (vector_in (replicate 4 a) (matrix_generators alpha beta) rows listing m c)))

  pub closure_four : (b w : ℕ) (answer : Result Closure CloseError) → MayClose (replicate 4 a) (matrix_generators alpha beta) b w answer → IfOk answer (λ closure. AllByRecursion (AreFour a.size) (vectors_of (rows_in closure)))
  closure_four b w (Ok (Closed rows)) may = rows_four rows may.1.listing
  closure_four b w (Ok (Exceeds rows)) may = rows_four rows may.1.listing
  closure_four b w (Err error) may = tt

-- ---- what all matrices tell may be answered

module _ (a : FiniteAlgebra) (alpha beta delta : Partition) (b w : ℕ) (rows : List Row) where
  pub may_judge : ¬ IsWide (replicate 4 a) (matrix_generators alpha beta) b → IsClosedListing (replicate 4 a) (matrix_generators alpha beta) b rows → (w ≡ 1 → IsSerialListing (replicate 4 a) (matrix_generators alpha beta) rows)
      → (central : Central) → IsJudged a alpha beta delta rows central → MayBeCentral a alpha beta delta b w (Ok central)
  may_judge narrow closed serial answers.Yes h = (narrow, (h, closed_has_no_more (replicate 4 a) (matrix_generators alpha beta) b rows closed), λ one. tt)
  may_judge narrow closed serial (answers.No matrix steps) h = (
    narrow,
    (h.0, h.1, closed_has_no_more (replicate 4 a) (matrix_generators alpha beta) b rows closed),
    λ one. record
        { rows = rows; closed = closed; serial = serial one; refutation = h.2 },
  )
  may_judge narrow closed serial answers.Exceeds h = absurd h
