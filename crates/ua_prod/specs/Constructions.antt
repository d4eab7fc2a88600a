-- Algebras made from others.
use Rattle.std.specs.Prelude.{ℕ, ◌+◌, ◌*◌, ◌/◌, ◌%◌, ◌==◌, List, length, map, replicate, zip, slice_index, slice_get, position}
use Rattle.std.specs.List.{filter, flat_map, range_with_len}
use Rattle.std.specs.Option.{option_to_list, unwrap_or}
use Rattle.ua_table.specs.Algebras.{FiniteAlgebra, Operation, numeral}
use Rattle.ua_table.specs.Numbering.{choices}
use Rattle.ua_part.specs.Partitions.{Partition}
use Rattle.ua_part.specs.Blocks.{leaders}

-- the value of an operation at these elements
abbrev pub value_of : Operation → List ℕ → ℕ
value_of o args = slice_index o.values (numeral o.size args)

-- the tuples of so many members of a list, in lexicographic order
abbrev pub tuples_among : List ℕ → ℕ → List (List ℕ)
tuples_among members count = choices (replicate count members)

-- the operations of these numbers, in this order
abbrev pub operations_at : List Operation → List ℕ → List Operation
operations_at os numbers = flat_map (λ f. option_to_list (slice_get os f)) numbers

-- the reduct to the operations of these numbers
abbrev pub reduct_of : List ℕ → FiniteAlgebra → List ℕ → FiniteAlgebra
reduct_of name a numbers = record { name = name; size = a.size; operations = operations_at a.operations numbers }

-- an operation at the tuples of some members alone, each value by its number in a list
abbrev pub renumbered : List ℕ → List ℕ → Operation → Operation
renumbered members numbers o = record { name = o.name; size = length members; arity = o.arity; values = map (λ args. slice_index numbers (value_of o args)) (tuples_among members o.arity) }

-- the algebra whose elements stand for these members of a, in order; each element of a has the number of what stands for it
abbrev pub algebra_among : List ℕ → FiniteAlgebra → List ℕ → List ℕ → FiniteAlgebra
algebra_among name a members numbers = record { name = name; size = length members; operations = map (renumbered members numbers) a.operations }

-- the place of an element among the members, or 0 where it is none
abbrev pub place_among : List ℕ → ℕ → ℕ
place_among members x = unwrap_or (position (λ m. m == x) members) 0

-- the subalgebra on a set: each member by its place in the set
abbrev pub subalgebra_of : List ℕ → FiniteAlgebra → List ℕ → FiniteAlgebra
subalgebra_of name a set = algebra_among name a set (map (place_among set) (range_with_len 0 a.size))

-- how many blocks have their least member below a number
abbrev pub blocks_below : Partition → ℕ → ℕ
blocks_below p x = length (filter (λ a. slice_index p a == a) (range_with_len 0 x))

-- the quotient by a congruence: each block stands for its members, and the blocks are numbered by their least ones
abbrev pub quotient_of : List ℕ → FiniteAlgebra → Partition → FiniteAlgebra
quotient_of name a p = algebra_among name a (leaders p) (map (blocks_below p) p)

-- the number of the pair of x and y, where y is below m
abbrev pub pair_number : ℕ → ℕ → ℕ → ℕ
pair_number m x y = x * m + y

-- the first element of the pair of this number
abbrev pub first_of : ℕ → ℕ → ℕ
first_of m pair = pair / m

-- and the second
abbrev pub second_of : ℕ → ℕ → ℕ
second_of m pair = pair % m

-- two operations side by side, at tuples of pairs
abbrev pub paired : Operation → Operation → Operation
paired o p = record {
  name = o.name;
  size = o.size * p.size;
  arity = o.arity;
  values = map (λ args. pair_number p.size (value_of o (map (first_of p.size) args)) (value_of p (map (second_of p.size) args))) (tuples_among (range_with_len 0 (o.size * p.size)) o.arity);
}

-- operations side by side, each with that of the same number
abbrev pub side_by_side : List Operation → List Operation → List Operation
side_by_side os ps = map (λ (both : Operation × Operation). paired both.0 both.1) (zip os ps)

-- the product of two algebras of one signature
abbrev pub product_of : List ℕ → FiniteAlgebra → FiniteAlgebra → FiniteAlgebra
product_of name a b = record { name = name; size = a.size * b.size; operations = side_by_side a.operations b.operations }
