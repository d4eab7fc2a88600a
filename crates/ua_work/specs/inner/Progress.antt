-- Records that have reached a turn.
use Rattle.std.specs.Prelude.{ℕ, ◌≤◌, List, length}
use Rattle.ua_table.specs.Algebras.{Vector, Product}
use Rattle.ua_table.specs.Orders.{Record, turn, IsSerial, rows_of, AreRecords}
use Rattle.ua_work.specs.Progress.{HasAllBefore}

-- the records are serial, are within the budget, and hold the value of each origin before this turn
pub record HasReached (p : Product) (gens : List Vector) (b : ℕ) (records : List Record) (t : List ℕ) : Type 0 where
  pub made : AreRecords p gens records
  pub serial : IsSerial p gens records
  pub within : length records ≤ b
  pub before : HasAllBefore p gens (rows_of records) t
