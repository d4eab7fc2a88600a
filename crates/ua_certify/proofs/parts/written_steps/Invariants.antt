use Rattle.std.proofs.Common.{◌≡◌, map, take}
use Rattle.ua_flaws.specs.Steps.{written_step}
use Rattle.ua_certify.proofs.parts.written_steps.Given as goal

abbrev pub invariant-loop-origin : goal.invariant-loop-origin
invariant-loop-origin l = l.steps.items ≡ map (written_step l.a) (take l.origin-index l.origins)
