use Rattle.std.proofs.Common.{◌<◌, length, sym, ap, ◌∙◌, subst}
use Rattle.ua_log.specs.Seats.{SeatView}
use Rattle.ua_work.proofs.LookLaws.{missed_self, missed_more, missed_sees, missed_stands, missed_alone}
use Rattle.ua_work.proofs.looks.look_often.Goals as goal

pub loop-init : goal.loop-init
loop-init c = missed_self c.args.seat.now

pub look-requires-clause-home : goal.look-requires-clause-home
look-requires-clause-home c = ap (λ (x : SeatView). x.home) c.loop.invariant.same ∙ c.requires.home

pub look-requires-clause-room : goal.look-requires-clause-room
look-requires-clause-room c = subst (λ (x : SeatView). length x.own.seen < c.args.board.now.plan.budget) (sym c.loop.invariant.same) c.requires.room

pub returns-in-Some-clause-found : goal.returns-in-Some-clause-found
returns-in-Some-clause-found c =
    let s = c.args.seat.now in
    let u = c.loop.seat in
    let told = c.in-Some.ensures.found in
    (missed_stands c.args.board.now.plan s u c.in-Some.o c.loop.invariant told.0, missed_sees s u c.look.new.seat c.in-Some.o c.loop.invariant told.1)

pub returns-in-Some-clause-alone : goal.returns-in-Some-clause-alone
returns-in-Some-clause-alone c = λ alone. c.in-Some.ensures.alone (missed_alone c.args.seat.now c.loop.seat c.loop.invariant alone)

pub loop-preserved : goal.loop-preserved
loop-preserved c = missed_more c.args.seat.now c.loop.seat c.look.new.seat c.loop.invariant c.in_default.ensures.found
