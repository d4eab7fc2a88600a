use Rattle.std.proofs.Common.{◌<◌, length, get_or, arith, below_more, ◌∙◌}
use Rattle.std.proofs.lemmas.List.{length-set, get_or-set_same, get_or-set_other}
use Rattle.ua_table.proofs.NumbersOnce.{once-below, once-differ}
use Rattle.ua_listing.proofs.sorting.positions_of.Goals as goal

pub index_mut-requires : goal.index_mut-requires
index_mut-requires c = let low = once-below _ c.args.ranks.now c.requires.ranks c.loop-i.i c.loop-i-test.true in omega (arith, low, c.loop-i.invariant.count)

pub loop-i-preserved : goal.loop-i-preserved
loop-i-preserved c =
    let ranks = c.args.ranks.now in
    let old = c.loop-i.positions.items in
    let here = get_or ranks c.loop-i.i 0 in
    let low = once-below _ ranks c.requires.ranks c.loop-i.i c.loop-i-test.true in
    let within : here < length old = omega (arith, low, c.loop-i.invariant.count) in
    record {
      count = length-set old here c.loop-i.i ∙ c.loop-i.invariant.count;
      each = below_more _ _
          (λ k h. get_or-set_other old here (get_or ranks k 0) c.loop-i.i 0 (once-differ _ ranks c.requires.ranks k c.loop-i.i h c.loop-i-test.true) ∙ c.loop-i.invariant.each k h)
          (get_or-set_same old here c.loop-i.i 0 within);
    }
