use Rattle.std.proofs.Common.{◌≡◌, ◌*◌}
use Rattle.ua_prod.specs.Draws.{state_after}
use Rattle.ua_shell.specs.Generated.{drawn_vectors}
use Rattle.ua_shell.proofs.generated.drawn_vectors.Given as goal

abbrev pub invariant-loop : goal.invariant-loop
invariant-loop l = record {
  vectors : l.vectors.items ≡ drawn_vectors l.fn.lcg l.counter;
  state : l.lcg ≡ state_after l.fn.lcg (7 * l.counter);
}
