use Rattle.std.proofs.Common.{◌≡◌, ◌∷◌, [], ◌++◌, refl, sym, ap, ◌∙◌, arith}
use Rattle.ua_prod.specs.Draws.{state_after}
use Rattle.ua_shell.specs.Generated.{drawn_vector, drawn_vectors}
use Rattle.ua_shell.proofs.Generating.{no_vectors, state_behind_vector, vectors_more}
use Rattle.ua_shell.proofs.generated.drawn_vectors.Goals as goal

pub loop-init : goal.loop-init
loop-init c = record { vectors = c.in_ok-vectors.ensures.items ∙ sym (no_vectors c.args.lcg.now); state = refl }

pub loop-preserved : goal.loop-preserved
loop-preserved c =
    let s = c.args.lcg.now in
    let vector = c.in_ok-drawn_vector.ensures.vector ∙ ap drawn_vector c.loop.invariant.state in
    record {
      vectors = c.in_ok-push.ensures.items ∙ (λ j. c.loop.invariant.vectors j ++ vector j ∷ []) ∙ sym (vectors_more s c.loop.counter);
      state = c.in_ok-drawn_vector.ensures.state ∙ ap (λ t. state_after t 7) c.loop.invariant.state ∙ state_behind_vector s c.loop.counter;
    }

pub returns : goal.returns
returns c =
    let end : c.loop.counter ≡ 4 = omega (arith, c.loop-test.false, c.loop.auto.counter-end) in
    c.loop.invariant.vectors ∙ ap (drawn_vectors c.args.lcg.now) end
