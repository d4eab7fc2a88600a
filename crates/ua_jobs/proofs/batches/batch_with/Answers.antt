use Rattle.std.proofs.Common.{◌≡◌, ℕ, length, ap, sym, ◌∙◌, subst, arith}
use Rattle.std.specs.List.{AllByRecursion}
use Rattle.std.proofs.lemmas.Result.{IfOk-weaker}
use Rattle.ua_table.proofs.Lists.{all_permutation}
use Rattle.atomic_table.specs.Seated.{TableId}
use Rattle.ua_jobs.specs.declared.batches.Turn.{Turn}
use Rattle.ua_jobs.specs.Seats.{PassView}
use Rattle.ua_jobs.specs.Harvests.{MayGive, numbered}
use Rattle.ua_jobs.specs.inner.Batches.{IsUnused}
use Rattle.ua_jobs.proofs.BatchLaws.{other_harvests, answers_together}
use Rattle.ua_jobs.proofs.batches.batch_with.Goals as goal

pub gather-requires-clause-harvests : goal.gather-requires-clause-harvests
gather-requires-clause-harvests g c = λ κs l.
    let turns = c.in_ok-turns.turns in
    let harvests = c.in_ok-harvests.harvests in
    let queue_is = ap (λ (p : PassView). p.queue) c.in_ok-kept.ensures.pass ∙ ap (λ (p : PassView). p.queue) c.in_ok-queue.ensures in
    let jobs_are = sym (ap (λ (p : PassView). p.own.jobs) c.in_ok-turns.ensures.first) in
    let unused : AllByRecursion (λ (t : Turn). IsUnused c.in_ok-queue.queue c.turns_of.new.first.own.jobs t.pass) turns.items =
    subst (λ (y : TableId × ℕ). AllByRecursion (λ (t : Turn). IsUnused y.0 y.1 t.pass) turns.items) (λ j. (queue_is j, jobs_are j)) c.in_ok-turns.ensures.turns in
    let count : length harvests.items ≡ length turns.items = omega (arith, c.in_ok-harvests.ensures.count, harvests.ok.0, turns.ok.0) in
    other_harvests c.in_ok-queue.queue c.turns_of.new.first.own.jobs (MayGive (λ f n r. g.F.Fn.post f (n, tt) r) c.args.work.now) turns.items harvests.items count unused c.in_ok-harvests.ensures.each

pub gather-requires-clause-answers : goal.gather-requires-clause-answers
gather-requires-clause-answers g c = λ κs l.
    let turns = c.in_ok-turns.turns in
    let harvests = c.in_ok-harvests.harvests in
    let count : length harvests.items ≡ length turns.items = omega (arith, c.in_ok-harvests.ensures.count, harvests.ok.0, turns.ok.0) in
    answers_together c.in_ok-queue.queue c.args.count (MayGive (λ f n r. g.F.Fn.post f (n, tt) r) c.args.work.now) turns.items harvests.items count c.in_ok-harvests.ensures.each

pub returns-clause-count : goal.returns-clause-count
returns-clause-count g c =
    let jobs_are = ap (λ (p : PassView). p.own.jobs) c.in_ok-turns.ensures.first ∙ ap (λ (p : PassView). p.own.jobs) c.in_ok-kept.ensures.pass ∙ ap (λ (p : PassView). p.own.jobs) c.in_ok-queue.ensures in
    IfOk-weaker c.in_order.result _ _ (λ outs count. count ∙ jobs_are) (c.in_order.ensures.count _ c.in_ok-answers.ensures.once)

pub returns-clause-answers : goal.returns-clause-answers
returns-clause-answers g c =
    IfOk-weaker c.in_order.result _ _ (λ outs p. all_permutation _ c.in_ok-answers.answers.items (numbered 0 outs.items) p c.in_ok-answers.ensures.answers) (c.in_order.ensures.order _ c.in_ok-answers.ensures.once)
