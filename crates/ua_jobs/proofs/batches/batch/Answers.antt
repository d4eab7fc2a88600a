use Rattle.ua_table.proofs.Lists.{all_weaker}
use Rattle.ua_table.proofs.Results.{IfOk-both}
use Rattle.ua_jobs.specs.Harvests.{IsAnswer, numbered}
use Rattle.ua_jobs.proofs.OrderLaws.{answer_each}
use Rattle.ua_jobs.proofs.batches.batch.Goals as goal

pub returns : goal.returns
returns g c =
    let jobs = c.args.jobs.now in
    IfOk-both c.batch_with.result _ _ _
    (λ outs count answers. answer_each g.J.Job.permits jobs outs.items (all_weaker _ (λ a. IsAnswer g.J.Job.permits jobs a.0 a.1) (λ a gives. gives) (numbered 0 outs.items) answers) count)
    c.batch_with.ensures.count c.batch_with.ensures.answers
