-- The values of a table in a line, and how they are scaled.
use Rattle.std.specs.Prelude.{ℕ, ◌%◌, ◌^◌, nat_lt, if◌then◌else◌, Bool, List, slice_index, slice_set}
use Rattle.ua_table.specs.Algebras.{Operation, numeral}

-- the value of a table where the argument at the free place is y, and the others are given; 0 where y is no element
abbrev pub table_value : Operation → List ℕ → ℕ → ℕ → ℕ
table_value o args free y = if nat_lt y o.size then slice_index o.values (numeral o.size (slice_set args free y)) else 0

-- by what the values at a coordinate are multiplied in lines: where they take half a byte, those of odd coordinates by sixteen
abbrev pub scale_at : Bool → ℕ → ℕ
scale_at in_bytes x = if in_bytes then 1 else 16 ^ (x % 2)
