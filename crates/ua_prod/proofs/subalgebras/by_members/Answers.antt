use Rattle.std.proofs.Common.{◌∷◌, [], ◌++◌, ◌∙◌, sym, arith}
use Rattle.std.proofs.lemmas.List.FromFn.{map-range_with_len_more}
use Rattle.ua_prod.specs.Constructions.{place_among}
use Rattle.ua_prod.proofs.subalgebras.by_members.Goals as goal

pub loop-x-preserved : goal.loop-x-preserved
loop-x-preserved c =
    c.in_ok-push.ensures.items
    ∙ (λ j. c.loop-x.invariant j ++ c.place_among.ensures j ∷ [])
    ∙ sym (map-range_with_len_more (place_among c.args.set.now) 0 c.loop-x.x c.loop-x.x (omega arith))
