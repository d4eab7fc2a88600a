use Rattle.std.proofs.Common.{◌≡◌, ℕ, ◌<◌, false, length, take, get_or}
use Rattle.ua_check.specs.Reached.{holds_position}
use Rattle.ua_check.proofs.reached.marks.Given as goal

-- the positions so far are marked
abbrev pub invariant-loop-p : goal.invariant-loop-p
invariant-loop-p l = record {
  count : length l.marks.items ≡ l.n;
  holds : (i : ℕ) → i < l.n → get_or l.marks.items i false ≡ holds_position (take l.p-index l.positions) i;
}
