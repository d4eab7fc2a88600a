use Rattle.ua_cong.specs.inner.States.{IsSearched}
use Rattle.ua_cong.proofs.components.settle_components.Given as goal

abbrev pub invariant-loop-pair : goal.invariant-loop-pair
invariant-loop-pair l = IsSearched l.ground l.known
