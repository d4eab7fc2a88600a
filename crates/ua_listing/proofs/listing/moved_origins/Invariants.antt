use Rattle.std.proofs.Common.{◌≡◌, take}
use Rattle.ua_listing.specs.inner.Arrangements.{origins_at}
use Rattle.ua_listing.proofs.listing.moved_origins.Given as goal

abbrev pub invariant-loop-rank : goal.invariant-loop-rank
invariant-loop-rank l = l.origins.items ≡ origins_at l.shape l.positions l.records (take l.rank-index l.ranks)
