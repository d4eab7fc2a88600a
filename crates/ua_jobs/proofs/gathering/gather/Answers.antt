use Rattle.std.proofs.Common.{◌≡◌, ◌+◌, ◌++◌, ◌<◌, List, ℕ, ap, sym, ◌∙◌, subst}
use Rattle.ua_table.specs.Counting.{times, once_below}
use Rattle.ua_table.proofs.Lists.{all_append, all_weaker}
use Rattle.ua_jobs.specs.Rule.{taken_times}
use Rattle.ua_jobs.specs.Seats.{PassView}
use Rattle.ua_jobs.specs.Harvests.{AreAnswers, MayGive, numbers_of}
use Rattle.ua_jobs.proofs.BatchLaws.{kept_below, taken_of_harvest, gathered_once}
use Rattle.ua_jobs.proofs.gathering.gather.Goals as goal

pub work_kept-requires-clause-callable : goal.work_kept-requires-clause-callable
work_kept-requires-clause-callable g c = λ κs l.
    let n = c.args.first.own.jobs in
    all_weaker (λ x. x < n) (λ x. g.F.Fn.pre c.args.work.now (x, tt)) (λ x h. c.requires.callable x h) c.args.kept.now (kept_below n c.args.first.own.pushed c.args.kept.now c.requires.numbers)

pub work_kept-requires-clause-answers : goal.work_kept-requires-clause-answers
work_kept-requires-clause-answers g c = λ κs l.
    let may = MayGive (λ f n r. g.F.Fn.post f (n, tt) r) c.args.work.now in
    let joined = subst (AreAnswers may) (sym c.in_ok-answers.ensures.answers) c.requires.answers in
    subst (AreAnswers may) (sym c.in_ok-append.ensures.items) (all_append _ c.in_ok-answers.answers.items c.serve_rest-served.result.answers.items joined c.serve_rest-served.ensures.answers)

pub returns-clause-once : goal.returns-clause-once
returns-clause-once g c =
    let served = c.serve_rest-served.result in
    let harvest = c.serve_rest-served.ensures.harvest in
    let n = c.args.first.own.jobs in
    let first = c.join_all.new.first in
    let all = c.in_ok-work_kept.ensures.numbers ∙ ap (λ (l : List (ℕ × g.row.O.Denot)). numbers_of l ++ c.args.kept.now) c.in_ok-append.ensures.items in
    let jobs_are = sym (ap (λ (p : PassView). p.own.jobs) c.in_ok-answers.ensures.pass) in
    let once : (x : ℕ) → taken_times x served.pass.own + times x c.args.kept.now ≡ once_below n x = λ x. c.serve_rest-served.ensures.once c.in-Empty.is x ∙ ap (λ m. once_below m x) (sym jobs_are) in
    gathered_once n first.own served.pass.own c.args.kept.now c.in_ok-answers.answers.items served.answers.items c.work_kept.new.answers.items
    (sym (ap (λ (p : PassView). p.own.joined) harvest.pass)) c.in_ok-answers.ensures.numbers
    (taken_of_harvest first served harvest c.in-Empty.is) once all
