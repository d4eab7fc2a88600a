use Rattle.std.proofs.Common.{◌≡◌}
use Rattle.ua_prod.specs.Draws.{state_after, draws}
use Rattle.ua_prod.proofs.generator.values_drawn.Given as goal

abbrev pub invariant-loop : goal.invariant-loop
invariant-loop l = record {
  values : l.values.items ≡ draws l.size l.fn.lcg l.counter;
  state : l.lcg ≡ state_after l.fn.lcg l.counter;
}
