use Rattle.ua_rows.proofs.IndexLaws.{first_entered}
use Rattle.ua_rows.proofs.index.enter.Goals as goal

pub returns : goal.returns
returns c = first_entered c.args.buckets.now c.slot_of-slot.result c.free_from-bucket.result c.args.entry c.requires.row c.slot_of-slot.ensures.slot c.free_from-bucket.ensures.free
