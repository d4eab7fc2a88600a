use Rattle.std.proofs.Common.{[], ◌∷◌, ◌++◌, take, sym, ap, ◌∙◌, arith}
use Rattle.std.proofs.lemmas.List.{take_more}
use Rattle.std.proofs.lemmas.Option.{get_or_from_slice_get}
use Rattle.ua_close.proofs.reaches.first_origins.Goals as goal

pub loop-i-preserved : goal.loop-i-preserved
loop-i-preserved c =
    let records = c.args.log.now.records in
    let low = c.loop-i-test.true in
    record {
      within = omega (arith, low);
      origins = c.in_ok-push.ensures.items
          ∙ (λ l. c.loop-i.invariant.origins l ++ sym (get_or_from_slice_get records c.loop-i.i c.origin.result c.origin.result c.origin.ensures) l ∷ [])
          ∙ sym (take_more records c.loop-i.i c.origin.result (let n = c.requires in omega (arith, low, n)));
    }

pub returns : goal.returns
returns c = let stop = c.loop-i-test.false in let low = c.loop-i.invariant.within in c.loop-i.invariant.origins ∙ ap (λ n. take n c.args.log.now.records) (omega (arith, stop, low))
