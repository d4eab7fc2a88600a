use Rattle.ua_reply.proofs.Rows.{rows_grow}
use Rattle.ua_reply.proofs.texts.push_rows.Goals as goal

pub loop-i-preserved : goal.loop-i-preserved
loop-i-preserved c =
    rows_grow c.args.known.now c.args.listing.now c.loop-i.i c.row.result.now c.rank.result c.origin.result c.row.ensures c.rank.ensures c.origin.ensures
    c.args.out.now.items c.loop-i.out.items c.push_row.new.out.items c.loop-i.invariant c.in_ok-push_row.ensures
