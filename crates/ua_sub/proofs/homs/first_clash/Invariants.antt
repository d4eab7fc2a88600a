use Rattle.std.proofs.Common.{ℕ, ◌≤◌}
use Rattle.ua_close.specs.Needed.{rank_at}
use Rattle.ua_sub.specs.Homs.{ClashInOrder}
use Rattle.ua_sub.proofs.homs.first_clash.Given as goal

abbrev pub invariant-loop-rank : goal.invariant-loop-rank
invariant-loop-rank l = (earlier later : ℕ) → ClashInOrder l.list earlier later → l.rank ≤ rank_at l.list later
