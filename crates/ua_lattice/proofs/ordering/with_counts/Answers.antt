use Rattle.std.proofs.Common.{◌++◌, ◌∷◌, [], ◌<◌, length, ap, sym, ◌∙◌, subst, arith}
use Rattle.std.specs.List.{AllByRecursion}
use Rattle.std.proofs.lemmas.List.{map-append, take_more}
use Rattle.std.proofs.lemmas.Option.{get_or_from_slice_get}
use Rattle.ua_table.proofs.Lists.{all_append}
use Rattle.ua_part.specs.Blocks.{block_count}
use Rattle.ua_lattice.specs.declared.ordering.Counted.{Counted}
use Rattle.ua_lattice.specs.inner.Ordering.{IsCounted, partitions_of}
use Rattle.ua_lattice.proofs.ordering.with_counts.Goals as goal

pub loop-i-preserved : goal.loop-i-preserved
loop-i-preserved c =
    let rows = c.args.rows.now.items in
    let new = c.with_count.result in
    let list = c.loop-i.list.items in
    let within : c.loop-i.i < length rows = omega (arith, c.loop-i-test.true, c.len-i-end.ensures.len) in
    let row = get_or_from_slice_get rows c.loop-i.i c.row.result.now [] c.row.ensures.row in
    let leaders = c.with_count.ensures.leaders ∙ c.in_ok-from_row.ensures ∙ sym row in
    let count : IsCounted new = c.with_count.ensures.blocks ∙ ap block_count (sym c.with_count.ensures.leaders) in
    record {
      partitions = ap partitions_of c.in_ok-push.ensures.items
          ∙ map-append (λ (k : Counted). k.leaders.items) list (new ∷ [])
          ∙ (λ j. c.loop-i.invariant.partitions j ++ leaders j ∷ [])
          ∙ sym (take_more rows c.loop-i.i [] within);
      counts = subst (AllByRecursion IsCounted) (sym c.in_ok-push.ensures.items) (all_append IsCounted list (new ∷ []) c.loop-i.invariant.counts (count, tt));
    }
