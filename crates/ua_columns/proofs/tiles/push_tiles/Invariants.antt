use Rattle.std.proofs.Common.{◌≡◌, ℕ, ◌+◌, ◌<◌, length, take}
use Rattle.ua_columns.specs.Columns.{AreBelow}
use Rattle.ua_columns.proofs.tiles.push_tiles.Given as goal

abbrev pub invariant-loop : goal.invariant-loop
invariant-loop l = record {
  front : take (length l.fn.tiles.items) l.tiles.items ≡ l.fn.tiles.items;
  long : length l.tiles.items ≡ length l.fn.tiles.items + l.counter;
  low : (n : ℕ) → 0 < n → AreBelow n l.fn.tiles.items → AreBelow n l.tiles.items;
}
