use Rattle.ua_shell.proofs.Sending.{front_sent, on_err}
use Rattle.ua_shell.proofs.batches.write_replies.Goals as goal

pub returns-in_err-write_all-clause-front : goal.returns-in_err-write_all-clause-front
returns-in_err-write_all-clause-front g c =
    let sent = rw c.deref.ensures.value at c.in_err-write_all.ensures.front in
    on_err c.from_residual.result (front_sent _ _ _ c.args.replies.now c.loop-reply.reply-index c.reply-item.result c.loop-reply-test.true c.reply-item.is c.loop-reply.invariant.appended sent)
