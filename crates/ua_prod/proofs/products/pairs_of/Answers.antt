use Rattle.std.proofs.Common.{◌∷◌, [], ◌++◌, ◌∙◌, sym, arith}
use Rattle.std.proofs.lemmas.List.FromFn.{map-range_with_len_more}
use Rattle.ua_prod.specs.Constructions.{first_of, second_of}
use Rattle.ua_prod.proofs.products.pairs_of.Goals as goal

pub loop-pair-preserved : goal.loop-pair-preserved
loop-pair-preserved c =
    let pair = c.loop-pair.pair in
    record {
      firsts = c.in_ok-push.ensures.items ∙ (λ j. c.loop-pair.invariant.firsts j ++ first_of c.args.second pair ∷ []) ∙ sym (map-range_with_len_more (first_of c.args.second) 0 pair pair (omega arith));
      seconds = c.in_ok-push-2.ensures.items ∙ (λ j. c.loop-pair.invariant.seconds j ++ second_of c.args.second pair ∷ []) ∙ sym (map-range_with_len_more (second_of c.args.second) 0 pair pair (omega arith));
    }
