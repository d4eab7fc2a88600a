use Rattle.std.proofs.Common.{ap, ◌∙◌, subst, sym, take}
use Rattle.ua_chain.specs.inner.Closures.{AreMarkedNumbers}
use Rattle.ua_chain.proofs.AnswerLaws.{numbers_skip, numbers_more}
use Rattle.ua_chain.proofs.chains.marked_numbers.Goals as goal
use Rattle.ua_chain.proofs.chains.marked_numbers.Goals.{then-marked+in_ok-push, else-marked}

pub loop-i-preserved : goal.loop-i-preserved
loop-i-preserved c =
    elim c.if-marked.branch [
      | then-marked+in_ok-push w ↦ numbers_more c.args.marks.now c.loop-i.i c.loop-i.numbers.items c.if-marked.numbers.items c.loop-i-test.true
          w.if-marked.true (ap (λ v. v.items) w.numbers-is ∙ w.in_ok-push.ensures.items) c.loop-i.invariant
      | else-marked w ↦ subst (AreMarkedNumbers (take _ c.args.marks.now)) (ap (λ v. v.items) (sym w.numbers-is)) (numbers_skip c.args.marks.now c.loop-i.i c.loop-i.numbers.items c.loop-i-test.true w.if-marked.false c.loop-i.invariant)
    ]
