use Rattle.std.proofs.Common.{Vec, Global, ℕ}
use denote.Param.Send.{sendable, arg_sync, param_sync}
use denote.Exit.{no}
use mir.Syntax.{named}
use Rattle.ua_table.proofs.Lists.{all_weaker}
use Rattle.ua_table.proofs.Results.{IfOk-both}
use Rattle.ua_jobs.specs.Harvests.{IsAnswer, numbered}
use Rattle.ua_jobs.proofs.OrderLaws.{answer_each}
use Rattle.ua_reply.specs.Sessions.{bounds_of}
use Rattle.ua_shell.specs.declared.hearing.Heard.{Heard}
use Rattle.ua_shell.specs.Hearing.{Tells}
use Rattle.ua_shell.proofs.Batching.{each_text}
use Rattle.ua_shell.proofs.Sharing.{work_sync}
use Rattle.ua_shell.proofs.batches.replies_to.Goals as goal

pub batch_with-requires-sync-F : goal.batch_with-requires-sync-F
batch_with-requires-sync-F g c κs within =
    param_sync 3 _ (arg_sync _ no _ (work_sync g.row.R g.row.G
    (record { mir = named 7; lft = κs.1.1.1.1.1.1.1.0 }) (record { mir = named 8; lft = κs.1.1.1.1.1.1.1.1.0 }) (record { mir = named 9; lft = κs.1.1.1.1.1.1.1.1.1.0 }) (record { mir = named 10; lft = κs.1.1.1.1.1.1.1.1.1.1.0 })
    (record { mir = named 11; lft = κs.1.1.1.1.1.1.1.1.1.1.1.0 }) (record { mir = named 12; lft = κs.1.1.1.1.1.1.1.1.1.1.1.1.0 })
    (record { mir = named 13; lft = κs.1.1.1.1.1.1.1.1.1.1.1.1.1.0 }) (record { mir = named 14; lft = κs.1.1.1.1.1.1.1.1.1.1.1.1.1.1.0 })
    (search (c.type_bounds.sync-R, sendable)) (search (c.type_bounds.sync-G, sendable))))

pub returns : goal.returns
returns g c =
    let s = c.args.session.now in
    let b = bounds_of c.args.run.now in
    let hs = c.args.heard.now in
    let permits : Heard → Vec ℕ Global → Type 0 = λ h v. Tells s b h v.items in
    IfOk-both c.batch_with.result _ _ _
    (λ outs count answers. each_text s b hs outs.items
    (answer_each permits hs outs.items (all_weaker _ (λ a. IsAnswer permits hs a.0 a.1) (λ a gives. gives) (numbered 0 outs.items) answers) count))
    c.batch_with.ensures.count c.batch_with.ensures.answers
