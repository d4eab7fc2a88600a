use Rattle.std.proofs.Common.{◌≡◌, take, length}
use Rattle.ua_flaws.proofs.orders.rows_of.Given as goal

abbrev pub invariant-loop-row : goal.invariant-loop-row
invariant-loop-row l = record { width : l.list.width ≡ l.width; items : l.list.items ≡ take l.row-index l.rows; buffer : length l.vector.items ≡ l.width }
