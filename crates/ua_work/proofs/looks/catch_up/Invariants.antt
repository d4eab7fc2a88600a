use Rattle.ua_work.specs.inner.Workings.{IsAtWork, HasWorked}
use Rattle.ua_work.proofs.looks.catch_up.Given as goal

abbrev pub invariant-loop : goal.invariant-loop
invariant-loop l = record {
  work : IsAtWork l.job l.replica l.seat;
  worked : HasWorked l.fn.seat l.fn.replica l.seat l.replica;
}
