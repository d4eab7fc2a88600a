use Rattle.std.proofs.Common.{◌-◌, length, sym}
use Rattle.ua_table.specs.Generated.{Sg}
use Rattle.ua_table.proofs.Lists.{all_at, Contains-slice_get}
use Rattle.ua_term.specs.Steps.{step_values}
use Rattle.ua_term.proofs.StepLaws.{members}
use Rattle.ua_close.proofs.laws.memberships.Goals as goal

pub returns : goal.returns
returns c = record {
  yes = λ p gens v b s to. all_at (Sg p gens) (step_values p gens s.items) v (members p gens s to.arities_are (sym to.generators) to.steps) (Contains-slice_get (step_values p gens s.items) (length s.items - 1) v to.value);
  no = λ p gens v b rows told generated. told.1 ((told.0.exact v).1 generated);
}
