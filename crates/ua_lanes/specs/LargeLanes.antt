-- Vectors of a product of algebras of any size, in words of four entries.
use Rattle.std.specs.Prelude.{◌≡◌, ℕ, ◌*◌, ◌^◌, ◌<◌, IsTrue, List, length, slice_index, vec_len}
use Rattle.std.specs.List.{AllByRecursion}
use Rattle.ua_table.specs.Algebras.{Product, IsProduct, IsVector, arities}
use Rattle.ua_rows.specs.RowLists.{rows_at}
use Rattle.ua_rows.specs.Words.{words_for}
use Rattle.ua_lanes.specs.Lines.{AreSizesAtMost, line_value}
use Rattle.ua_columns.specs.Quads.{QuadVectors, AreLongLines}
use Rattle.ua_lanes.specs.Windows.{tuple_of}
use Rattle.ua_lanes.specs.declared.long_windows.LongWindow.{LongWindow}

-- vectors of a product whose algebras have at most so many elements
pub record AreQuadVectors (p : Product) (quads : QuadVectors) : Type 0 where
  pub product : IsProduct p
  pub sizes : AreSizesAtMost quads.size p
  pub size : quads.size < 2 ^ 16
  pub width : quads.width ≡ length p
  pub vectors : AllByRecursion (IsVector p) quads.items

-- the lines of operation f where the argument at this place is free, and the others are these vectors
pub record HasLongLines (p : Product) (quads : QuadVectors) (f : ℕ) (fixed : List ℕ) (free : ℕ) (lines : List ℕ) : Type 0 where
  pub operation : f < length (arities p)
  pub place : free < slice_index (arities p) f
  pub named : AllByRecursion (λ a. a < length quads.items) (tuple_of p f fixed)
  pub lines_are : AreLongLines quads.size quads.width (line_value p f (rows_at quads.items (tuple_of p f fixed)) free) lines

-- there is room for the lines and the values, and the lines are those that the window names
pub record IsLongWindow (p : Product) (quads : QuadVectors) (w : LongWindow) : Type 0 where
  pub four : length w.fixed ≡ 4
  pub lines_long : vec_len w.lines ≡ 4 * quads.size * words_for quads.width
  pub values_long : vec_len w.values ≡ 16 * words_for quads.width
  pub are_lined : IsTrue w.lined → HasLongLines p quads w.op w.fixed w.free w.lines.items

-- the words hold vectors of the product, and the window is of it
pub record AreLargeLanes (p : Product) (quads : QuadVectors) (w : LongWindow) : Type 0 where
  pub vectors : AreQuadVectors p quads
  pub window : IsLongWindow p quads w
