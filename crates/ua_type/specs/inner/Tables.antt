-- The types of some covers.
use Rattle.std.specs.Prelude.{◌≡◌, ℕ, List, map, Result, Ok, Err, Vec}
use Rattle.std.specs.declared.alloc.Global.{Global}
use Rattle.std.specs.List.{AllByRecursion}
use Rattle.ua_table.specs.Algebras.{FiniteAlgebra}
use Rattle.ua_close.specs.declared.close.CloseError.{CloseError}
use Rattle.ua_close.specs.declared.close.CloseError.TheVariants.{Wide, OutOfMemory}
use Rattle.ua_part.specs.Partitions.{Partition}
use Rattle.ua_type.specs.declared.typings.Typed.{Typed}
use Rattle.ua_type.specs.Permitted.{places_of, IsRow, IsWideAmong}

-- the types of all of them, or the first set that is too wide is refused
abbrev pub MayTable : FiniteAlgebra → ℕ → List Partition → List (ℕ × ℕ) → Result (Vec (ℕ × ℕ × Typed) Global) CloseError → Type 0
MayTable a budget list covers (Ok rows) = (map places_of rows.items ≡ covers) × AllByRecursion (IsRow a budget list) rows.items
MayTable a budget list covers (Err (Wide r c)) = IsWideAmong a budget list covers r c
MayTable a budget list covers (Err OutOfMemory) = Unit {0}
