use Rattle.std.proofs.Common.{◌≡◌, length}
use Rattle.ua_jobs_tests.proofs.batches.jobs_from.Given as goal

abbrev pub invariant-loop-number : goal.invariant-loop-number
invariant-loop-number l = length l.jobs.items ≡ l.number
