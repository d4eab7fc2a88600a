use Rattle.std.proofs.Common.{arith}
use Rattle.ua_rows.proofs.RowLaws.{length-rows_at}
use Rattle.ua_bases.specs.Bases.{row_at}
use Rattle.ua_work.specs.inner.Replicas.{values_in}
use Rattle.ua_work.proofs.WorkLaws.{places_seen}
use Rattle.ua_work.proofs.PairLaws.{pair_origin, pair_new}
use Rattle.ua_work.proofs.GrowthLaws.{recorded_further}
use Rattle.ua_work.proofs.completions.put_result.Goals as goal

pub look_on-requires : goal.look_on-requires
look_on-requires c =
    let count = places_seen c.args.replica.now c.args.seat.now.own c.requires.work.goes.working in
    let seen = c.seen.ensures.seen in
    omega (arith, count, seen)

pub put_new-requires-clause-origin : goal.put_new-requires-clause-origin
put_new-requires-clause-origin c =
    let r = c.args.replica.now in
    let recorded = c.look_on.ensures r.rows.items c.requires.work.goes.working.replica.named c.requires.recorded in
    let one = c.in-Some.ensures (values_in r) r.rows.items recorded in
    let two = c.in-Some-record.ensures (values_in r) r.rows.items recorded in
    let long = length-rows_at r.rows.items r.places.items in
    pair_origin r c.args.op c.in-Some.a c.in-Some-record.b c.requires.binary (omega (arith, long, one.0)) (omega (arith, long, two.0))

pub put_new-requires-clause-new : goal.put_new-requires-clause-new
put_new-requires-clause-new c =
    let r = c.args.replica.now in
    let replica = c.requires.work.goes.working.replica in
    let recorded = c.look_on.ensures r.rows.items replica.named c.requires.recorded in
    let one = c.in-Some.ensures (values_in r) r.rows.items recorded in
    let two = c.in-Some-record.ensures (values_in r) r.rows.items recorded in
    pair_new r c.args.op c.in-Some.a c.in-Some-record.b c.requires.binary (row_at r.rows.items c.args.pair.row) (row_at r.rows.items c.args.pair.base) replica one.1 two.1 c.requires.result c.requires.new

pub returns-then-is_err-clause-told : goal.returns-then-is_err-clause-told
returns-then-is_err-clause-told c = λ b. (c.requires.work, c.look_on.ensures c.args.replica.now.rows.items c.requires.work.goes.working.replica.named c.requires.recorded)

pub returns-in_default-clause-told : goal.returns-in_default-clause-told
returns-in_default-clause-told c = λ b. (c.requires.work, c.look_on.ensures c.args.replica.now.rows.items c.requires.work.goes.working.replica.named c.requires.recorded)

pub returns-in_default-record-clause-told : goal.returns-in_default-record-clause-told
returns-in_default-record-clause-told c = λ b. (c.requires.work, c.look_on.ensures c.args.replica.now.rows.items c.requires.work.goes.working.replica.named c.requires.recorded)

pub returns-in-None-clause-told : goal.returns-in-None-clause-told
returns-in-None-clause-told c =
    let e = c.in-None.ensures in
    let recorded = c.look_on.ensures c.args.replica.now.rows.items c.requires.work.goes.working.replica.named c.requires.recorded in
    (e.done.0, recorded_further c.requires.work e.done.0 e.worked c.look_on.new.self.records.items recorded)
