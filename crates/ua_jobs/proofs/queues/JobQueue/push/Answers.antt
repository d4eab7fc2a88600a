use Rattle.ua_jobs.proofs.Steps.{puts}
use Rattle.ua_jobs.proofs.queues.JobQueue.push.Goals as goal

pub push_as-requires-clause-rule : goal.push_as-requires-clause-rule
push_as-requires-clause-rule g c =
    let is = c.pass.view_is in
    (puts _ _ _ _ (rw (← is) at c.requires.first) (rw (← is) at c.requires.job) (rw (← is) at c.requires.above), λ items views h at. tt)
