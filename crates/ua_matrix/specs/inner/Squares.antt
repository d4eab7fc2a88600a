-- The pairs that a congruence relates, by their numbers in the square of the algebra: what private functions say.
use Rattle.std.specs.Prelude.{◌≡◌, ℕ, ◌*◌, ◌<◌, ◌≤◌, ◌==◌, List, length, slice_index}
use Rattle.std.specs.List.{filter, range_with_len}
use Rattle.ua_table.specs.Algebras.{FiniteAlgebra, IsAlgebra}
use Rattle.ua_part.specs.Partitions.{Partition}
use Rattle.ua_prod.specs.Constructions.{first_of, second_of, product_of, subalgebra_of}
use Rattle.ua_prod.specs.Escapes.{IsClosed}
use Rattle.ua_matrix.specs.declared.deltas.Delta.{Delta}
use Rattle.ua_matrix.specs.Deltas.{IsDelta}
use Rattle.ua_table.specs.declared.limits.TheConstants.{SIZE}
use Rattle.ua_matrix.specs.Squares.{number_of}

-- the numbers of the pairs that p relates, ascending
abbrev pub pairs_in : Partition → List ℕ
pairs_in p = filter (λ k. slice_index p (first_of (length p) k) == slice_index p (second_of (length p) k)) (range_with_len 0 (length p * length p))

-- the elements of the e-th pair, where there are n elements
abbrev pub left_of : ℕ → List ℕ → ℕ → ℕ
left_of n pairs e = first_of n (slice_index pairs e)

abbrev pub right_of : ℕ → List ℕ → ℕ → ℕ
right_of n pairs e = second_of n (slice_index pairs e)

-- b is the subalgebra of the square of a on the pairs
pub record IsSubsquare (a : FiniteAlgebra) (pairs : List ℕ) (b : FiniteAlgebra) : Type 0 where
  pub square : IsAlgebra (product_of a.name a a)
  pub closed : IsClosed (product_of a.name a a) pairs
  pub some : 0 < length pairs
  pub is : b ≡ subalgebra_of a.name (product_of a.name a a) pairs
  pub algebra : IsAlgebra b

-- the blocks of Delta, with the pairs whose places they hold
pub record IsDeltaOf (a : FiniteAlgebra) (alpha beta : Partition) (delta : Delta) : Type 0 where
  pub algebra : FiniteAlgebra
  pub pairs : delta.pairs.items ≡ pairs_in beta
  pub size : algebra.size ≡ length delta.pairs.items
  pub few : length delta.pairs.items ≤ SIZE
  pub is : IsDelta a alpha beta (left_of a.size delta.pairs.items) (right_of a.size delta.pairs.items) (number_of a.size delta.pairs.items) algebra delta.blocks
