use Rattle.ua_table.specs.Counting.{total}
use Rattle.ua_comm.specs.inner.Growths.{IsGrowing}
use Rattle.ua_comm.proofs.growth.least_with.Given as goal

abbrev pub invariant-grow : goal.invariant-grow
invariant-grow l = IsGrowing l.a l.matrices.items l.delta

abbrev pub decreases-grow : goal.decreases-grow
decreases-grow l = total (λ x. x) l.delta
