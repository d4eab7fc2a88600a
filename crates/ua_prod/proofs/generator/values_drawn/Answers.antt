use Rattle.std.proofs.Common.{◌∷◌, [], ◌++◌, sym, ap, ◌∙◌}
use Rattle.ua_prod.specs.Draws.{next_state, drawn}
use Rattle.ua_prod.proofs.DrawLaws.{state_more, draws_more}
use Rattle.ua_prod.proofs.generator.values_drawn.Goals as goal

pub loop-preserved : goal.loop-preserved
loop-preserved c =
    let s = c.args.lcg.now in
    let n = c.args.size in
    let value = c.draw.ensures.drawn ∙ ap (drawn n) c.loop.invariant.state in
    record {
      values = c.in_ok-push.ensures.items ∙ (λ j. c.loop.invariant.values j ++ value j ∷ []) ∙ sym (draws_more n s c.loop.counter);
      state = c.draw.ensures.state ∙ ap next_state c.loop.invariant.state ∙ sym (state_more s c.loop.counter);
    }
