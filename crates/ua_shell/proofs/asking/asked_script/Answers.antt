use Rattle.std.proofs.Common.{sym, subst}
use Rattle.std.specs.List.{AllByRecursion}
use Rattle.ua_script.specs.declared.script.Script.{Script}
use Rattle.ua_shell.specs.inner.Outputs.{IsServed}
use Rattle.ua_shell.proofs.Generating.{generated_served}
use Rattle.ua_shell.proofs.asking.asked_script.Goals as goal

pub returns-in-Ok-clause-served : goal.returns-in-Ok-clause-served
returns-in-Ok-clause-served g c = subst (λ (s : Script). AllByRecursion IsServed s.items) (sym c.in-Ok.ensures.script) (generated_served c.in-Some.n)
