use Rattle.std.proofs.Common.{◌∷◌, [], ◌++◌, take, ap, sym, ◌∙◌, subst, append_assoc}
use Rattle.std.proofs.lemmas.List.{map-append, take_more}
use Rattle.std.specs.Prelude.{slice_index}
use Rattle.ua_table.proofs.Lists.{all_append}
use Rattle.ua_jobs.specs.Harvests.{AreAnswers, MayGive, numbers_of}
use Rattle.ua_jobs.proofs.gathering.work_kept.Goals as goal

pub loop-number-preserved : goal.loop-number-preserved
loop-number-preserved g c =
    let i = c.loop-number.invariant in
    let kept = c.args.kept.now in
    let k = c.loop-number.number-index in
    let x = slice_index kept k in
    let before = c.loop-number.answers.items in
    let items = c.in_ok-push.ensures.items in
    record {
      answers = subst (AreAnswers (MayGive (λ f n r. g.F.Fn.post f (n, tt) r) c.args.work.now)) (sym items) (all_append _ before ((x, c.in_ok-out.out) ∷ []) i.answers (c.in_ok-out.ensures, tt));
      numbers =
          ap numbers_of items
          ∙ map-append _ before ((x, c.in_ok-out.out) ∷ [])
          ∙ ap (λ l. l ++ x ∷ []) i.numbers
          ∙ append_assoc (numbers_of c.args.answers.now.items) (take k kept) (x ∷ [])
          ∙ ap (λ l. numbers_of c.args.answers.now.items ++ l) (sym (take_more kept k 0 c.loop-number-test.true));
    }
