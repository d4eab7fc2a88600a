use Rattle.std.proofs.Common.{ap, ◌∙◌, ◌-◌}
use Rattle.ua_jobs.specs.Moves.{told}
use Rattle.ua_jobs.proofs.Steps.{tells, untells}
use Rattle.ua_jobs.proofs.queues.JobQueue.start.Goals as goal

pub try_push_as-requires-clause-rule : goal.try_push_as-requires-clause-rule
try_push_as-requires-clause-rule c = tells _ _ _ _ c.in_ok-ring.ensures.3

pub try_pop_as-requires-clause-rule : goal.try_pop_as-requires-clause-rule
try_pop_as-requires-clause-rule c =
    untells _ _ (c.args.jobs - 1) (c.in-Ok.ensures.rule ∙ ap (λ v. told v (c.args.jobs - 1)) c.in_ok-ring.ensures.3)
