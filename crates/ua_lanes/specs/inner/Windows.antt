-- The lines of one operation.
use Rattle.std.specs.Prelude.{◌≡◌, ◌≢◌, ℕ, ◌<◌, IsTrue, List, slice_index}
use Rattle.ua_lanes.specs.declared.windows.Window.{Window}

-- the lines are those of operation f at a tuple, of which the entry at the free place does not matter
pub record IsLinedFor (w : Window) (f : ℕ) (args : List ℕ) : Type 0 where
  pub lined : IsTrue w.lined
  pub operation : w.op ≡ f
  pub others : (j : ℕ) → j < 4 → j ≢ w.free → slice_index args j ≡ slice_index w.fixed j
