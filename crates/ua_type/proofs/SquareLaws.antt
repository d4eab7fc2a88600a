-- Squares are vectors of the fourth power.
use Rattle.std.proofs.Common.{ℕ, ◌<◌, List, [], ◌∷◌, replicate, refl, arith, Some, None}
use Rattle.std.specs.Prelude.{Ok}
use Rattle.std.specs.List.{AllByRecursion, range_with_len}
use Rattle.ua_table.specs.Algebras.{FiniteAlgebra, IsAlgebra, IsProduct, IsVector}
use Rattle.ua_table.specs.Listings.{Row}
use Rattle.ua_table.proofs.ListingLaws.{exceeding_has_more, closed_has_no_more}
use Rattle.ua_table.proofs.Lists.{all_append, all_map, all_from_contains}
use Rattle.ua_table.proofs.Choices.{range_low}
use Rattle.ua_type.specs.Subtraces.{constants}
use Rattle.ua_close.specs.declared.close.Closure.TheVariants.{Closed, Exceeds}
use Rattle.ua_close.specs.Permitted.{MayClose}
use Rattle.ua_type.specs.Types.{square_generators, HasType}
use Rattle.ua_type.specs.inner.Squares.{MayHaveType}

pub fourth-IsProduct : (b : FiniteAlgebra) → IsAlgebra b → IsProduct (replicate 4 b)
fourth-IsProduct b alg = record { wide = omega arith; algebras = (alg, (alg, (alg, (alg, tt)))); similar = (refl, (refl, (refl, (refl, tt)))) }

pub square_vectors : (b : FiniteAlgebra) (x y : ℕ) → x < b.size → y < b.size → AllByRecursion (IsVector (replicate 4 b)) (square_generators b x y)
square_vectors b x y xw yw =
    all_append (IsVector (replicate 4 b)) (constants 4 b) ((x ∷ x ∷ y ∷ y ∷ []) ∷ (x ∷ y ∷ x ∷ y ∷ []) ∷ [])
    (all_map (IsVector (replicate 4 b)) (λ (c : ℕ). replicate 4 c) (range_with_len 0 b.size)
    (all_from_contains (λ (c : ℕ). IsVector (replicate 4 b) (replicate 4 c)) (range_with_len 0 b.size) (λ c h. let r = range_low 0 b.size c h in let w : c < b.size = omega (arith, r.1) in (w, (w, (w, (w, tt)))))))
    ((xw, (xw, (yw, (yw, tt)))), ((xw, (yw, (xw, (yw, tt)))), tt))

-- ---- what is told of the type

module _ (b : FiniteAlgebra) (budget workers x y : ℕ) where
  pub squares_exceed : (rows : List Row) → MayClose (replicate 4 b) (square_generators b x y) budget workers (Ok (Exceeds rows)) → MayHaveType b budget x y (Ok None)
  squares_exceed rows h = (h.0, exceeding_has_more (replicate 4 b) (square_generators b x y) budget rows h.1)

  pub squares_closed : (rows : List Row) (number : ℕ) → MayClose (replicate 4 b) (square_generators b x y) budget workers (Ok (Closed rows)) → HasType b x y number → MayHaveType b budget x y (Ok (Some number))
  squares_closed rows number h t = (h.0, closed_has_no_more (replicate 4 b) (square_generators b x y) budget rows h.1, t)
