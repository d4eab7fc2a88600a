-- What a window tells: for the tuples that differ in one place alone, with sixteen numbers there, which values are vectors.
use Rattle.std.specs.Prelude.{◌≡◌, ℕ, ◌+◌, ◌*◌, ◌/◌, ◌%◌, ◌^◌, ◌<◌, ◌≤◌, Bool, IsTrue, List, length, take, slice_index, slice_set, Contains, vec_len}
use Rattle.std.specs.List.{AllByRecursion}
use Rattle.ua_table.specs.Algebras.{Vector, Product, IsProduct, IsVector, arities, apply}
use Rattle.ua_rows.specs.RowLists.{rows_at}
use Rattle.ua_columns.specs.Columns.{VectorColumns, limit, tables, AreBelow, tiles_for, words_for, AreLinesOf}
use Rattle.ua_lanes.specs.Lines.{AreSizesAtMost, line_value}
use Rattle.ua_lanes.specs.declared.windows.Window.{Window}

-- as many places of a tuple as operation f has arguments
abbrev pub tuple_of : Product → ℕ → List ℕ → List ℕ
tuple_of p f args = take (slice_index (arities p) f) args

-- the tuple names vectors, and the value of operation f at them is one of the vectors
pub record IsKnown (p : Product) (items : List Vector) (f : ℕ) (args : List ℕ) : Type 0 where
  pub named : AllByRecursion (λ a. a < length items) (tuple_of p f args)
  pub stands : Contains items (apply p f (rows_at items (tuple_of p f args)))

-- bits of sixteen tuples that differ from this one at a place alone: the numbers there are those beside its own, from a multiple of sixteen on. Where a bit is set the tuple is known
abbrev pub AreBitsOf : Product → List Vector → ℕ → List ℕ → ℕ → ℕ → Type 0
AreBitsOf p items f args place bits = (r : ℕ) → r < 16 → bits / 2 ^ r % 2 ≡ 1 → IsKnown p items f (slice_set args place (16 * (slice_index args place / 16) + r))

-- the columns hold vectors of a product of algebras that are small enough for their form
pub record AreVectors (p : Product) (columns : VectorColumns) : Type 0 where
  pub product : IsProduct p
  pub sizes : AreSizesAtMost (limit columns.in_bytes) p
  pub width : columns.width ≡ length p
  pub vectors : AllByRecursion (IsVector p) columns.items

-- the lines of operation f where the argument at this place is free, and the others are these vectors
pub record HasLines (p : Product) (in_bytes : Bool) (items : List Vector) (f : ℕ) (fixed : List ℕ) (free : ℕ) (lines : List (List (List ℕ))) : Type 0 where
  pub operation : f < length (arities p)
  pub place : free < slice_index (arities p) f
  pub few : slice_index (arities p) f ≤ 4
  pub named : AllByRecursion (λ a. a < length items) (tuple_of p f fixed)
  pub lines_are : AreLinesOf in_bytes (line_value p f (rows_at items (tuple_of p f fixed)) free) lines

-- the lines are those that the window names, and each bit that is set tells of a tuple whose value is known
pub record IsWindow (p : Product) (in_bytes : Bool) (items : List Vector) (w : Window) : Type 0 where
  pub place : w.free < 4
  pub four : length w.fixed ≡ 4
  pub lines_long : vec_len w.lines ≡ tables in_bytes * tiles_for (length p)
  pub values_long : vec_len w.values ≡ words_for in_bytes (length p)
  pub bytes : AreBelow 256 w.lines.items
  pub lined : IsTrue w.lined → HasLines p in_bytes items w.op w.fixed w.free w.lines.items
  pub told : (r : ℕ) → r < 16 → w.known / 2 ^ r % 2 ≡ 1 → IsKnown p items w.op (slice_set w.fixed w.free (16 * w.block + r))
