use Rattle.std.proofs.Common.{◌≡◌}
use Rattle.ua_work.specs.Harvests.{IsLater}
use Rattle.ua_work.specs.inner.Workings.{IsAtWork}
use Rattle.ua_work.proofs.workers.stand_back.Given as goal

abbrev pub invariant-loop : goal.invariant-loop
invariant-loop l = record {
  work : IsAtWork l.job l.replica l.seat;
  later : IsLater l.fn.seat l.seat;
  slices : l.seat.own.slices ≡ l.fn.seat.own.slices;
}
