use Rattle.std.proofs.Common.{◌≡◌, ℕ, ◌<◌, length, get_or}
use Rattle.ua_listing.proofs.sorting.positions_of.Given as goal

abbrev pub invariant-loop-i : goal.invariant-loop-i
invariant-loop-i l = record {
  count : length l.positions.items ≡ length l.ranks;
  each : (k : ℕ) → k < l.i → get_or l.positions.items (get_or l.ranks k 0) 0 ≡ k;
}
