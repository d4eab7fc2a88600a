use Rattle.std.proofs.Common.{◌≡◌, ◌<◌, length, take, ap, sym, subst, ◌∙◌, arith, length-set}
use Rattle.std.specs.List.{AllByRecursion}
use Rattle.std.proofs.lemmas.List.{take_all}
use Rattle.ua_sub.specs.Flaws.{images_of}
use Rattle.ua_sub.proofs.FlawLaws.{images_below, images_more}
use Rattle.ua_sub.proofs.flaws.value_at_images.Goals as goal

pub loop-place-preserved : goal.loop-place-preserved
loop-place-preserved c = record {
  long = length-set c.loop-place.list c.loop-place.place _ ∙ c.loop-place.invariant.long;
  images = images_more c.args.images.now c.args.args.now c.loop-place.list c.loop-place.place c.from.result c.loop-place.invariant.images
      (omega (arith, c.loop-place-test.true, c.loop-place.invariant.long, c.from-place-end.ensures, c.arity.ensures.arity, c.arity.ensures.table.arity))
      (omega (arith, c.loop-place-test.true, c.requires.count, c.from-place-end.ensures, c.arity.ensures.arity))
      c.from.ensures;
}

pub value-requires-clause-below : goal.value-requires-clause-below
value-requires-clause-below c =
    let xs = c.args.args.now in
    let all : c.loop-place.place ≡ length c.args.args.now = omega (arith, c.loop-place-test.false, c.loop-place.auto.place-end, c.requires.count, c.from-place-end.ensures, c.arity.ensures.arity) in
    let whole : take (length c.args.args.now) c.loop-place.list ≡ images_of c.args.images.now c.args.args.now =
    ap (λ n. take n c.loop-place.list) (sym all) ∙ c.loop-place.invariant.images ∙ ap (images_of c.args.images.now) (take_all c.loop-place.place xs (omega (arith, all))) in
    subst (AllByRecursion (λ x. x < c.args.table.now.size)) (sym whole) (images_below c.args.table.now.size c.args.images.now xs c.requires.images c.requires.below)
