use Rattle.std.proofs.Common.{◌≡◌, map}
use Rattle.ua_listing.proofs.HighLaws.{high, highs}
use Rattle.ua_listing.proofs.sorting.high_rows.Given as goal

abbrev pub invariant-loop-place : goal.invariant-loop-place
invariant-loop-place l = map high l.rows.items ≡ highs l.heights l.place
