use Rattle.std.proofs.Common.{◌≡◌, Ok, ap, ◌∙◌, subst}
use Rattle.ua_close.specs.declared.memberships.Answer.TheVariants as answers
use Rattle.ua_cond.specs.Permitted.{MayDecide}
use Rattle.ua_flaws.specs.Steps.{written_steps}
use Rattle.ua_check.specs.Conditions.{condition_of, condition_flaw, no_condition_flaw}
use Rattle.ua_certify.proofs.Flawless.{NamedConditions, term_flawless, no_term_flawless}
use Rattle.ua_certify.proofs.answers.certify_condition.Goals as goal

pub returns-in_ok-steps-in-Yes-clause-flawless : goal.returns-in_ok-steps-in-Yes-clause-flawless
returns-in_ok-steps-in-Yes-clause-flawless c = λ b w some places h.
    let a = c.args.a.now in let name = c.args.name in let k = c.args.k in let steps = c.in-Yes.steps in
    let is : c.args.answer.now ≡ answers.Yes steps = let e = c.in-Yes.is in cc in
    let may = subst (λ z. MayDecide a (condition_of name k) b w (Ok z)) is h in
    let named : NamedConditions =
    record {
      maltsev_is = c.named.ensures.maltsev;
      majority_is = c.named.ensures.majority;
      minority_is = c.named.ensures.minority;
      pixley_is =
          c.named.ensures.pixley;
      near_unanimity_is = c.named.ensures.near_unanimity;
    } in
    let s = c.in_ok-steps-in-Yes.ensures ∙ ap (written_steps a) c.list.ensures.steps in
    ap (condition_flaw a name k) s ∙ term_flawless a name k b w c.size-size.ensures.algebra some places named c.patterns.ensures.wide steps c.flawless.ensures.condition may

pub returns-in_ok-rows-in-No-clause-flawless : goal.returns-in_ok-rows-in-No-clause-flawless
returns-in_ok-rows-in-No-clause-flawless c = λ b w some places h.
    let a = c.args.a.now in let name = c.args.name in let k = c.args.k in let rows = c.in-No.list in
    let is : c.args.answer.now ≡ answers.No rows = let e = c.in-No.is in cc in
    let may = subst (λ z. MayDecide a (condition_of name k) b w (Ok z)) is h in
    let named : NamedConditions =
    record {
      maltsev_is = c.named.ensures.maltsev;
      majority_is = c.named.ensures.majority;
      minority_is = c.named.ensures.minority;
      pixley_is =
          c.named.ensures.pixley;
      near_unanimity_is = c.named.ensures.near_unanimity;
    } in
    ap (no_condition_flaw a name k) c.in_ok-rows-in-No.ensures
    ∙ no_term_flawless a name k b w c.size-size.ensures.algebra some places named c.patterns.ensures.wide rows c.flawless.ensures.no_condition
    c.kinds.ensures.vectors c.conditions.ensures.arguments may
