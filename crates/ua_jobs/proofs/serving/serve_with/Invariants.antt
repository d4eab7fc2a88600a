use Rattle.std.proofs.Common.{◌≡◌}
use Rattle.ua_jobs.specs.Harvests.{AreAnswers, AnswersAll, MayGive}
use Rattle.ua_jobs.specs.Seats.{with_view}
use Rattle.ua_jobs.proofs.serving.serve_with.Given as goal

abbrev pub invariant-loop : goal.invariant-loop
invariant-loop g l = record {
  pass : l.pass ≡ with_view l.fn.pass (record l.fn.pass.own { taken = l.pass.own.taken });
  permitted : AreAnswers (MayGive (λ f n r. g.F.Fn.post f (n, tt) r) l.work) l.answers.items;
  answered : AnswersAll l.answers.items l.pass;
}
