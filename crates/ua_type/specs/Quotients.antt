-- What a congruence and another above it make of a quotient.
use Rattle.std.specs.Prelude.{ℕ, map, slice_index}
use Rattle.ua_table.specs.Algebras.{FiniteAlgebra}
use Rattle.ua_part.specs.Partitions.{Partition}
use Rattle.ua_part.specs.Blocks.{leaders}
use Rattle.ua_prod.specs.Constructions.{blocks_below, quotient_of}

-- the quotient by a congruence, under the name of the algebra
abbrev pub quotient_by : FiniteAlgebra → Partition → FiniteAlgebra
quotient_by a p = quotient_of a.name a p

-- the least member of the block of this number
abbrev pub leader_of : Partition → ℕ → ℕ
leader_of p number = slice_index (leaders p) number

-- the congruence q, above p, as one of the quotient by p: it relates blocks where q relates their members
abbrev pub image_of : Partition → Partition → Partition
image_of p q = map (λ leader. blocks_below p (slice_index q leader)) (leaders p)
