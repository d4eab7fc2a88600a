use Rattle.std.proofs.Common.{◌≡◌, ℕ, ◌-◌, length, Some}
use Rattle.std.specs.Prelude.{slice_get}
use Rattle.ua_term.specs.Steps.{StepList}
use Rattle.ua_chain.specs.inner.Closures.{AreStepsAt}
use Rattle.ua_chain.proofs.chains.chain_steps.Given as goal

abbrev pub invariant-loop-k : goal.invariant-loop-k
invariant-loop-k l = record {
  count : length l.steps.items ≡ l.k;
  steps : (j : ℕ) (s : StepList) → slice_get l.steps.items j ≡ Some s → AreStepsAt l.frame l.gens.items l.list l.rows (length l.gens.items - 1) j s;
}
