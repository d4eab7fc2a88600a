use Rattle.std.proofs.Common.{◌≡◌}
use Rattle.ua_table.specs.Counting.{numbers_below}
use Rattle.ua_listing.proofs.leasts.all_places.Given as goal

abbrev pub invariant-loop-i : goal.invariant-loop-i
invariant-loop-i l = l.places.items ≡ numbers_below l.i
