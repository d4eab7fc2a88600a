use Rattle.std.proofs.Common.{◌≡◌, ◌+◌, ◌^◌, get_or, sym, ◌∙◌, arith}
use Rattle.ua_prod.proofs.SizeLaws.{power_small, arity_small, needed_more}
use Rattle.ua_prod.proofs.sizes.values_needed.Goals as goal

pub pow-needed-requires : goal.pow-needed-requires
pow-needed-requires c =
    let ks = c.args.arities.now in
    let i = c.loop-arity.arity-index in
    let small = power_small c.args.size (get_or ks i 0) c.requires.small (arity_small ks i c.requires.shape.small c.loop-arity-test.true) in
    let is : c.from.result ^ c.from-in-loop-arity.result ≡ c.args.size ^ get_or ks i 0 = λ j. c.from.ensures j ^ c.from-in-loop-arity.ensures j in
    omega (arith, small, is)

pub overflow_add-needed : goal.overflow_add-needed
overflow_add-needed c =
    let ks = c.args.arities.now in
    let i = c.loop-arity.arity-index in
    let small = power_small c.args.size (get_or ks i 0) c.requires.small (arity_small ks i c.requires.shape.small c.loop-arity-test.true) in
    let is : c.pow-needed.result ≡ c.args.size ^ get_or ks i 0 = c.pow-needed.ensures ∙ (λ j. c.from.ensures j ^ c.from-in-loop-arity.ensures j) in
    omega (arith, small, is, c.loop-arity.invariant.small, c.loop-arity-test.true, c.requires.shape.few)

pub loop-arity-preserved : goal.loop-arity-preserved
loop-arity-preserved c =
    let ks = c.args.arities.now in
    let i = c.loop-arity.arity-index in
    let small = power_small c.args.size (get_or ks i 0) c.requires.small (arity_small ks i c.requires.shape.small c.loop-arity-test.true) in
    let is : c.pow-needed.result ≡ c.args.size ^ get_or ks i 0 = c.pow-needed.ensures ∙ (λ j. c.from.ensures j ^ c.from-in-loop-arity.ensures j) in
    record {
      needed = (λ j. c.loop-arity.invariant.needed j + is j) ∙ sym (needed_more c.args.size ks i c.loop-arity-test.true);
      small = (let old = c.loop-arity.invariant.small in omega (arith, small, is, old));
    }
