use Rattle.std.proofs.Common.{◌≡◌, map, take}
use Rattle.ua_flaws.specs.Steps.{written_steps}
use Rattle.ua_certify.proofs.parts.written_terms.Given as goal

-- the terms so far are written
abbrev pub invariant-loop-steps : goal.invariant-loop-steps
invariant-loop-steps l = l.lists.items ≡ map (λ s. written_steps l.a s.items) (take l.steps-index l.terms)
