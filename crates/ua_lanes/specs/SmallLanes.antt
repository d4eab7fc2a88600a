-- Vectors of a product of small algebras in lanes.
use Rattle.std.specs.Prelude.{◌≡◌, List, length}
use Rattle.std.specs.List.{AllByRecursion}
use Rattle.ua_table.specs.Algebras.{Product, arities}
use Rattle.ua_columns.specs.Columns.{VectorColumns}
use Rattle.ua_lanes.specs.Windows.{AreVectors, IsWindow}
use Rattle.ua_lanes.specs.declared.windows.Window.{Window}

-- the columns hold vectors of the product, and there is a window for each operation, which tells of them
pub record AreSmallLanes (p : Product) (columns : VectorColumns) (ws : List Window) : Type 0 where
  pub vectors : AreVectors p columns
  pub many : length ws ≡ length (arities p)
  pub windows : AllByRecursion (IsWindow p columns.in_bytes columns.items) ws
