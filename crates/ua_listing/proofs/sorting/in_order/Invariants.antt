use Rattle.std.proofs.Common.{◌≡◌, map, take}
use Rattle.ua_table.specs.Orders.{rows_of}
use Rattle.ua_listing.proofs.RankingLaws.{ranked, numbered}
use Rattle.ua_listing.proofs.sorting.in_order.Given as goal

abbrev pub invariant-loop-rank : goal.invariant-loop-rank
invariant-loop-rank l = map ranked l.rows.items ≡ numbered 0 (take l.rank (rows_of l.records))
