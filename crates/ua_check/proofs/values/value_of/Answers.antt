use Rattle.std.proofs.Common.{◌≡◌, length, map, length-set, sym, subst, ◌∙◌, arith}
use Rattle.std.specs.Prelude.{slice_index, slice_index_or}
use Rattle.std.proofs.lemmas.List.{length-take-le, get_or_default}
use Rattle.ua_table.specs.declared.origins.Origin.TheVariants.{Gen}
use Rattle.ua_table.specs.Algebras.{arities_of}
use Rattle.ua_table.specs.Origins.{IsOrigin}
use Rattle.ua_term.proofs.StepLaws.{step_at}
use Rattle.ua_check.proofs.ValueLaws.{value_more, below_more}
use Rattle.ua_check.proofs.values.value_of.Goals as goal

pub step_value-value-requires-clause-step : goal.step_value-value-requires-clause-step
step_value-value-requires-clause-step c =
    let l = c.loop-i-test.true in let room = c.loop-i.invariant.room in let few = c.requires.room in
    let long = length-take-le c.loop-i.i c.loop-i.values (omega arith) in
    subst (λ n. IsOrigin (arities_of c.args.a.now) (length c.args.places.now) n (slice_index_or c.args.steps.now c.loop-i.i (Gen 0))) (sym long)
    (step_at (arities_of c.args.a.now) (length c.args.places.now) c.args.steps.now c.loop-i.i (Gen 0) c.requires.steps (omega arith))

pub loop-i-preserved : goal.loop-i-preserved
loop-i-preserved c =
    let l = c.loop-i-test.true in let room = c.loop-i.invariant.room in let few = c.requires.room in
    let o = slice_index_or c.args.steps.now c.loop-i.i (Gen 0) in
    let at : o ≡ slice_index_or c.args.steps.now c.loop-i.i o = get_or_default c.args.steps.now c.loop-i.i (Gen 0) o (omega arith) in
    record {
      room = length-set c.loop-i.values c.loop-i.i c.step_value-value.result ∙ room;
      known =
          value_more c.args.a.now (map (slice_index c.args.xs.now) c.args.places.now) (length c.args.places.now) c.args.steps.now c.loop-i.i o
          c.loop-i.values c.step_value-value.result c.requires.steps (omega arith) at (omega arith) c.loop-i.invariant.known
          c.step_value-value.ensures.value;
      below = below_more c.args.a.now.size c.loop-i.values c.loop-i.i c.step_value-value.result (omega arith) c.loop-i.invariant.below c.step_value-value.ensures.element;
    }
