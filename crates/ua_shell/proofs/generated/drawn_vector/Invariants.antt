use Rattle.std.proofs.Common.{◌≡◌, map}
use Rattle.ua_prod.specs.Draws.{state_after, draws}
use Rattle.ua_shell.specs.Generated.{entry}
use Rattle.ua_shell.proofs.generated.drawn_vector.Given as goal

abbrev pub invariant-loop : goal.invariant-loop
invariant-loop l = record {
  values : l.values.items ≡ map entry (draws 3 l.fn.lcg l.counter);
  state : l.lcg ≡ state_after l.fn.lcg l.counter;
}
