use Rattle.std.proofs.Common.{◌≡◌, ◌++◌, take}
use Rattle.ua_jobs.specs.Harvests.{AreAnswers, MayGive, numbers_of}
use Rattle.ua_jobs.proofs.gathering.work_kept.Given as goal

abbrev pub invariant-loop-number : goal.invariant-loop-number
invariant-loop-number g l = record {
  answers : AreAnswers (MayGive (λ f n r. g.F.Fn.post f (n, tt) r) l.work) l.answers.items;
  numbers : numbers_of l.answers.items ≡ numbers_of l.fn.answers.items ++ take l.number-index l.kept;
}
