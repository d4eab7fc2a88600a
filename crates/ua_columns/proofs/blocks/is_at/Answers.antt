use Rattle.std.proofs.Common.{◌≡◌, [], slice_index_or}
use Rattle.std.specs.Prelude.{slice_index}
use Rattle.ua_columns.proofs.TileLaws.{one_more, none_differs}
use Rattle.ua_columns.proofs.blocks.is_at.Goals as goal

pub loop-j-preserved : goal.loop-j-preserved
loop-j-preserved c e =
    let key = c.args.key.now in
    let values = c.args.values.now in
    let j = c.loop-j.j in
    let parts = none_differs c.loop-j.bits (slice_index key j) (slice_index (slice_index_or values j []) c.args.lane) e in
    one_more (λ k. slice_index key k ≡ slice_index (slice_index_or values k []) c.args.lane) j (c.loop-j.invariant parts.0) parts.1
