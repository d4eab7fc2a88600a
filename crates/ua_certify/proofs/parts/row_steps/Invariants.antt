use Rattle.std.proofs.Common.{◌≡◌, take}
use Rattle.ua_flaws.specs.Steps.{row_steps}
use Rattle.ua_certify.proofs.parts.row_steps.Given as goal

abbrev pub invariant-loop-i : goal.invariant-loop-i
invariant-loop-i l = l.steps.items ≡ take l.i (row_steps l.a l.listing)
