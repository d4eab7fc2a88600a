use Rattle.std.proofs.Common.{◌<◌, ◌/◌, [], rules, arith}
use Rattle.std.specs.Prelude.{slice_index}
use Rattle.std.specs.List.{AllByRecursion}
use Rattle.ua_table.proofs.Lists.{all_set, all_get_or}
use Rattle.ua_rows.proofs.LineLaws.{all_or}
use Rattle.ua_columns.proofs.columns.write_lane.Goals as goal

pub loop-x-preserved : goal.loop-x-preserved
loop-x-preserved c =
    let x = c.loop-x.x in
    let tile = c.write_entry.new.tile in
    record {
      long = search rules;
      low = λ n small low.
          let entry : slice_index c.args.v.now x < n = all_get_or (λ y. y < n) c.args.v.now x 0 c.loop-x-test.true small in
          let tiles = c.loop-x.invariant.low n small low in
          all_set (AllByRecursion (AllByRecursion (λ y. y < n))) c.loop-x.block (x / 16) tile
          (c.write_entry.ensures.low n (omega (arith, entry)) (all_or (AllByRecursion (AllByRecursion (λ y. y < n))) c.loop-x.block (x / 16) [] tt tiles)) tiles;
      lane = search rules;
      others = search rules;
    }
