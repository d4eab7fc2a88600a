use Rattle.std.proofs.Common.{◌≡◌, ◌+◌, length, refl, ap, ◌∙◌, arith, length-append, [], ◌∷◌}
use Rattle.ua_log.specs.Seats.{SeatView}
use Rattle.ua_work.proofs.WorkLaws.{same_work, same_origin, few_more, origin_in}
use Rattle.ua_work.proofs.LookLaws.{found_worked, found_working, found_work, missed_self, missed_worked, missed_work}
use Rattle.ua_work.proofs.looks.see_next.Goals as goal

pub take_in-requires-clause-origin : goal.take_in-requires-clause-origin
take_in-requires-clause-origin c =
    same_origin c.args.replica.now c.reserve.new.self c.in-Some.o c.reserve.ensures.same (origin_in c.in-Some.o c.requires.work c.in-Some.ensures.found.0)

pub take_in-requires-clause-few : goal.take_in-requires-clause-few
take_in-requires-clause-few c = few_more c.seen.result c.requires.work c.reserve.ensures.same c.reserve.ensures.replica c.seen.ensures.seen c.if-seen-job.false

pub returns-then-take_in-clause-worked : goal.returns-then-take_in-clause-worked
returns-then-take_in-clause-worked c = found_worked c.reserve.ensures.same c.if-take_in.ensures.closure c.in-Some.o c.in-Some.ensures.found.1

pub returns-then-take_in-clause-done : goal.returns-then-take_in-clause-done
returns-then-take_in-clause-done c =
    let work = same_work c.reserve.ensures.same c.reserve.ensures.replica c.requires.work in
    let e = c.if-take_in.ensures in
    (found_working work.goes.working e.closure e.replica c.seen.ensures.own c.in-Some.o e.values c.in-Some.ensures.found.1, (e.met refl).0, (e.met refl).1)

pub returns-clause-worked : goal.returns-clause-worked
returns-clause-worked c = found_worked c.reserve.ensures.same c.if-take_in.ensures.closure c.in-Some.o c.in-Some.ensures.found.1

pub returns-clause-done : goal.returns-clause-done
returns-clause-done c =
    let work = same_work c.reserve.ensures.same c.reserve.ensures.replica c.requires.work in
    let e = c.if-take_in.ensures in
    let x = c.in-Some.o in
    let long : length c.look_often.new.seat.own.seen ≡ length c.args.seat.now.own.seen + 1 = ap (λ (u : SeatView). length u.own.seen) c.in-Some.ensures.found.1.same ∙ length-append c.args.seat.now.own.seen (x ∷ []) in
    let seen = c.seen.ensures.seen in
    (found_work work e.closure e.replica c.seen.ensures.own x e.values (e.unmet refl) c.in-Some.ensures.found.1, (omega (arith, long), omega (arith, seen, c.if-seen-job.false)))

pub returns-in_default-clause-worked : goal.returns-in_default-clause-worked
returns-in_default-clause-worked c = missed_worked c.reserve.ensures.same c.in_default.ensures.found

pub returns-in_default-clause-done : goal.returns-in_default-clause-done
returns-in_default-clause-done c =
    let missed = c.in_default.ensures.found in
    (missed_work missed (same_work c.reserve.ensures.same c.reserve.ensures.replica c.requires.work), missed)

pub returns-then-seen-job-clause-done : goal.returns-then-seen-job-clause-done
returns-then-seen-job-clause-done c = (c.requires.work, missed_self c.args.seat.now)
