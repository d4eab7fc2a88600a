use Rattle.std.proofs.Common.{◌≡◌, ◌∷◌, [], ◌++◌, map, sym, ap, ◌∙◌, arith}
use Rattle.ua_prod.specs.Draws.{next_state, state_after, draws, drawn}
use Rattle.ua_prod.proofs.DrawLaws.{state_more}
use Rattle.ua_term.specs.Phrases.{nowhere}
use Rattle.ua_operands.specs.declared.written.Entry.TheVariants as entries
use Rattle.ua_shell.specs.Generated.{drawn_vector, entry, number}
use Rattle.ua_shell.proofs.Generating.{entries_more}
use Rattle.ua_shell.proofs.generated.drawn_vector.Goals as goal

pub loop-preserved : goal.loop-preserved
loop-preserved c =
    let s = c.args.lcg.now in
    let value = c.draw-value.ensures.drawn ∙ ap (drawn 3) c.loop.invariant.state in
    let put = c.number.ensures ∙ ap number value in
    record {
      values = c.in_ok-push.ensures.items ∙ (λ j. c.loop.invariant.values j ++ entries.Number (put j) ∷ []) ∙ sym (entries_more s c.loop.counter);
      state = c.draw-value.ensures.state ∙ ap next_state c.loop.invariant.state ∙ sym (state_more s c.loop.counter);
    }

pub returns-clause-vector : goal.returns-clause-vector
unfolding drawn_vector
returns-clause-vector c =
    let s = c.args.lcg.now in
    let end : c.loop.counter ≡ 7 = omega (arith, c.loop-test.false, c.loop.auto.counter-end) in
    let values = c.new.ensures ∙ c.loop.invariant.values ∙ ap (λ n. map entry (draws 3 s n)) end in
    λ j. record { values = values j; place = nowhere }

pub returns-clause-state : goal.returns-clause-state
returns-clause-state c =
    let end : c.loop.counter ≡ 7 = omega (arith, c.loop-test.false, c.loop.auto.counter-end) in
    c.loop.invariant.state ∙ ap (state_after c.args.lcg.now) end
