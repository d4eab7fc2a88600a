use Rattle.std.proofs.Common.{◌≡◌, ◌+◌, ◌*◌, ◌-◌, ◌<◌, ◌++◌, List, ℕ, length, take, drop, ap, ◌∙◌, arith}
use Rattle.std.specs.List.{AllByRecursion}
use borrow.Rule.Slice.PartMut.{mid_len}
use Rattle.ua_columns.specs.Columns.{entry_of}
use Rattle.ua_table.proofs.Lists.{all_append, all_take}
use Rattle.ua_columns.proofs.ListLaws.{all_drop}
use Rattle.ua_columns.proofs.ColumnLaws.{block_put, block_put_other}
use Rattle.ua_columns.proofs.columns.enter_lane.Goals as goal

pub returns-clause-low : goal.returns-clause-low
returns-clause-low c n small low =
    let start = c.args.block * c.args.parts in
    let k = start + c.args.parts - start in
    let tiles = c.args.tiles.now in
    let P = AllByRecursion (AllByRecursion (λ x. x < n)) in
    all_append P (take start tiles) (c.write_lane.new.block ++ drop k (drop start tiles)) (all_take P start tiles low)
    (all_append P c.write_lane.new.block (drop k (drop start tiles)) (c.write_lane.ensures.low n small (all_take P k (drop start tiles) (all_drop P tiles start low))) (all_drop P (drop start tiles) k (all_drop P tiles start low)))

pub returns-clause-others : goal.returns-clause-others
returns-clause-others c b apart =
    let start = c.args.block * c.args.parts in
    let n = start + c.args.parts - start in
    let is : n ≡ c.args.parts = omega arith in
    let long : length c.write_lane.new.block ≡ c.args.parts = c.write_lane.ensures.length ∙ mid_len start (start + c.args.parts) c.args.tiles.now c.requires.whole ∙ is in
    block_put_other c.args.tiles.now c.write_lane.new.block c.args.parts c.args.block n b is long c.requires.whole apart

pub returns-clause-lane : goal.returns-clause-lane
returns-clause-lane c x low =
    let start = c.args.block * c.args.parts in
    let n = start + c.args.parts - start in
    let is : n ≡ c.args.parts = omega arith in
    let long : length c.write_lane.new.block ≡ c.args.parts = c.write_lane.ensures.length ∙ mid_len start (start + c.args.parts) c.args.tiles.now c.requires.whole ∙ is in
    ap (λ (b : List (List (List ℕ))). entry_of b c.args.lane x) (block_put c.args.tiles.now c.write_lane.new.block c.args.parts c.args.block n is long c.requires.whole) ∙ c.write_lane.ensures.lane x low

pub returns-clause-lanes : goal.returns-clause-lanes
returns-clause-lanes c r x apart =
    let start = c.args.block * c.args.parts in
    let n = start + c.args.parts - start in
    let is : n ≡ c.args.parts = omega arith in
    let long : length c.write_lane.new.block ≡ c.args.parts = c.write_lane.ensures.length ∙ mid_len start (start + c.args.parts) c.args.tiles.now c.requires.whole ∙ is in
    ap (λ (b : List (List (List ℕ))). entry_of b r x) (block_put c.args.tiles.now c.write_lane.new.block c.args.parts c.args.block n is long c.requires.whole) ∙ c.write_lane.ensures.others r x apart
