-- The matrices of two congruences, and centrality read off them: what private functions say.
use Rattle.std.specs.Prelude.{ℕ, ◌<◌, Option, Some, None, List, [], slice_index_or}
use Rattle.ua_table.specs.Algebras.{Vector}
use Rattle.ua_part.specs.Partitions.{Partition}
use Rattle.ua_matrix.specs.Matrices.{Fails, IsFirstOf}

-- of the first n matrices, which fails first by rank, if one does
abbrev pub IsFirstOfFront : Partition → List Vector → List ℕ → ℕ → Option ℕ → Type 0
IsFirstOfFront delta matrices ranks n None = (j : ℕ) → j < n → ¬ Fails delta (slice_index_or matrices j [])
IsFirstOfFront delta matrices ranks n (Some i) = IsFirstOf delta matrices ranks n i
