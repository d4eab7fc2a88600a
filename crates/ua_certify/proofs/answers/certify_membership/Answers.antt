use Rattle.std.proofs.Common.{◌≡◌, ap, ◌∙◌, subst}
use Rattle.ua_table.specs.Algebras.{power}
use Rattle.ua_close.specs.declared.memberships.Answer.TheVariants as answers
use Rattle.ua_close.specs.Memberships.{Tells}
use Rattle.ua_flaws.specs.Steps.{written_steps}
use Rattle.ua_flaws.specs.Flaws.{member_flaw, not_member_flaw}
use Rattle.ua_certify.proofs.Flawless.{steps_flawless, absent_flawless}
use Rattle.ua_certify.proofs.answers.certify_membership.Goals as goal

pub returns-in_ok-numbers-in-Yes-clause-flawless : goal.returns-in_ok-numbers-in-Yes-clause-flawless
returns-in_ok-numbers-in-Yes-clause-flawless c = λ b wide admitted one h.
    let a = c.args.a.now in let w = c.args.width in let gens = c.args.gens.now.items in let target = c.args.target.now in let steps = c.in-Yes.steps in
    let is : c.args.answer.now ≡ answers.Yes steps = let e = c.in-Yes.is in cc in
    let to = subst (Tells (power a w) gens target b) is h in
    let g = c.in_ok-vectors-in-Yes.ensures in let t = c.in_ok-numbers-in-Yes.ensures in
    let s = c.in_ok-written_steps-in-Yes.ensures ∙ ap (written_steps a) c.list.ensures.steps in
    (λ i. member_flaw a (g i) (s i) (t i) w) ∙ steps_flawless a w gens target steps c.flawless.ensures.member c.size-size.ensures.algebra wide admitted one to

pub returns-in_ok-numbers-in-No-clause-flawless : goal.returns-in_ok-numbers-in-No-clause-flawless
returns-in_ok-numbers-in-No-clause-flawless c = λ b wide admitted one h.
    let a = c.args.a.now in let w = c.args.width in let gens = c.args.gens.now.items in let target = c.args.target.now in let rows = c.in-No.list in
    let is : c.args.answer.now ≡ answers.No rows = let e = c.in-No.is in cc in
    let lacks = subst (Tells (power a w) gens target b) is h in
    let g = c.in_ok-vectors-in-No.ensures in let t = c.in_ok-numbers-in-No.ensures in let r = c.in_ok-rows-in-No.ensures in
    (λ i. not_member_flaw a (g i) (r i) (t i) w) ∙ absent_flawless a w b gens target rows c.kinds.ensures.vectors c.flawless.ensures.not_member c.size-size.ensures.algebra wide admitted one lacks.0 lacks.1
