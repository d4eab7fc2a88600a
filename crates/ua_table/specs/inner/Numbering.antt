-- The tuples of one unit.
use Rattle.std.specs.Prelude.{ℕ, ◌-◌, List, slice_index}
use Rattle.ua_table.specs.declared.shapes.Unit.{Unit}
use Rattle.ua_table.specs.Numbering.{entries, choices}

-- the tuples of the unit of these parts, in order
abbrev pub unit_tuples : List ℕ → Unit → List (List ℕ)
unit_tuples ks unit = choices (entries unit.row unit.place (slice_index ks unit.op))
