use Rattle.ua_cong.specs.inner.States.{IsSearched}
use Rattle.ua_cong.proofs.components.settle_component.Given as goal

abbrev pub invariant-loop : goal.invariant-loop
invariant-loop l = IsSearched l.ground l.known
