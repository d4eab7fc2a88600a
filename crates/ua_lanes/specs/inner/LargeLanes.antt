-- The lines of one operation over an algebra of any size.
use Rattle.std.specs.Prelude.{◌≡◌, ◌≢◌, ℕ, ◌<◌, IsTrue, List, slice_index}
use Rattle.ua_lanes.specs.declared.long_windows.LongWindow.{LongWindow}

-- the lines are those of operation f at a tuple where the argument at this place is free
pub record IsLongLinedFor (w : LongWindow) (f : ℕ) (args : List ℕ) (place : ℕ) : Type 0 where
  pub lined : IsTrue w.lined
  pub operation : w.op ≡ f
  pub free : w.free ≡ place
  pub others : (j : ℕ) → j < 4 → j ≢ place → slice_index args j ≡ slice_index w.fixed j
