use Rattle.std.proofs.Common.{◌≤◌, List, take, length}
use Rattle.std.specs.List.{AllByRecursion}
use Rattle.ua_cert.specs.declared.certs.CertStep.{CertStep}
use Rattle.ua_check.proofs.chains.most_steps.Given as goal

abbrev pub invariant-loop-steps : goal.invariant-loop-steps
invariant-loop-steps l = AllByRecursion (λ (steps : List CertStep). length steps ≤ l.most) (take l.steps-index l.terms)
