-- The algebra of the pairs that a congruence relates, and the congruence Delta on it: what private functions say.
use Rattle.std.specs.Prelude.{ℕ, List, [], ◌∷◌, length, slice_index}
use Rattle.std.specs.List.{flat_map, range_with_len}
use Rattle.ua_table.specs.Algebras.{Vector}
use Rattle.ua_part.specs.Partitions.{Partition}
use Rattle.ua_matrix.specs.Deltas.{matrix_of_rows}

-- each pair with the least of its block, one above the other both ways
abbrev pub leading_matrices : (ℕ → ℕ) → (ℕ → ℕ) → Partition → List Vector
leading_matrices left right delta = flat_map (λ e. matrix_of_rows left right (slice_index delta e) e ∷ matrix_of_rows left right e (slice_index delta e) ∷ []) (range_with_len 0 (length delta))
