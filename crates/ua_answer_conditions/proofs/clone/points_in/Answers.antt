use Rattle.std.proofs.Common.{[], ◌∷◌, take, sym, subst}
use Rattle.ua_reply.specs.Checks.{Checks, AreFirst}
use Rattle.ua_reply.proofs.CheckLaws.{and_passed}
use Rattle.ua_answer_conditions.specs.ArgumentSets.{HoldsThese}
use Rattle.ua_answer_conditions.specs.CloneCommand.{point_in, points_in}
use Rattle.ua_answer_conditions.proofs.WrittenTables.{seen, next_points, next_seen}
use Rattle.ua_answer_conditions.proofs.clone.points_in.Goals as goal

pub loop-v-init : goal.loop-v-init
loop-v-init c =
    let b = c.args.known.now in
    let k = c.args.k in
    let first = c.args.first.now in
    record {
      errors = subst (λ (d : Checks). AreFirst d c.in_ok-errors.errors) (sym (and_passed (point_in b k [] first))) (c.in_ok-errors.ensures.errors [] c.new-seen.ensures);
      seen = c.in_ok-errors.ensures.seen [] c.new-seen.ensures;
    }

pub loop-v-preserved : goal.loop-v-preserved
loop-v-preserved c =
    let b = c.args.known.now in
    let k = c.args.k in
    let first = c.args.first.now in
    let others = c.args.others.now in
    let i = c.loop-v.v-index in
    let v = c.v-item.result in
    let before = seen b k [] (first ∷ take i others) in
    let inv = c.loop-v.invariant in
    record {
      errors = next_points b k first v others i c.and-errors.result c.loop-v-test.true c.v-item.is
          (c.and-errors.ensures.first (points_in b k [] (first ∷ take i others)) (point_in b k before v) inv.errors (c.in_ok-point_in.ensures.errors before inv.seen));
      seen = subst (HoldsThese c.point_in-in-loop-v.new.seen) (sym (next_seen b k first v others i c.loop-v-test.true c.v-item.is)) (c.in_ok-point_in.ensures.seen before inv.seen);
    }
