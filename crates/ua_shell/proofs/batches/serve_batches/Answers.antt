use Rattle.std.proofs.Common.{◌≡◌, ◌≤◌, [], length, refl, ap, arith}
use Rattle.std.proofs.lemmas.List.{drop_all}
use Rattle.ua_shell.proofs.Serving.{at_item}
use Rattle.ua_shell.proofs.Pending.{heard_start, heard_item, heard_told, heard_end}
use Rattle.ua_shell.proofs.batches.serve_batches.Goals as goal
use Rattle.ua_shell.proofs.batches.serve_batches.Goals.{then-len+in-Done, else-len}

pub loop-item-init : goal.loop-item-init
loop-item-init g c =
    let none = c.new-heard.ensures.items in
    record { served = heard_start _ _ _ _ _ c.new-session.ensures none; few = (let short = ap length none in omega (arith, short)); never_falls = omega arith }

pub tell-served-requires-clause-ready : goal.tell-served-requires-clause-ready
tell-served-requires-clause-ready g c κs within =
    let item = at_item c.args.items.now c.loop-item.item-index c.item-item.result c.item-item.result c.loop-item-test.true c.item-item.is refl in
    let heard = heard_item _ _ _ _ _ _ _ _ _ _ item c.in-Ok.ensures c.loop-item.invariant.served in
    rw c.deref.ensures.value heard.ready

pub returns-in_default-served : goal.returns-in_default-served
returns-in_default-served g c =
    let item = at_item c.args.items.now c.loop-item.item-index c.item-item.result c.item-item.result c.loop-item-test.true c.item-item.is refl in
    let heard = heard_item _ _ _ _ _ _ _ _ _ _ item c.in-Ok.ensures c.loop-item.invariant.served in
    let told = rw c.deref.ensures.value at c.tell-served.ensures.told in
    heard_end g.K.Sink.written g.K.Sink.faults _ _ c.args.sink.now c.loop-item.sink c.tell-served.new.sink _ _ _ c.tell-served.result (λ e. absurd (c.in_default-served.not-Done e)) told c.loop-item.invariant.never_falls
    c.tell-served.ensures.never_falls heard

pub loop-item-preserved : goal.loop-item-preserved
loop-item-preserved g c =
    let item = at_item c.args.items.now c.loop-item.item-index c.item-item.result c.item-item.result c.loop-item-test.true c.item-item.is refl in
    let heard = heard_item _ _ _ _ _ _ _ _ _ _ item c.in-Ok.ensures c.loop-item.invariant.served in
    elim c.if-len.branch [
      | then-len+in-Done w ↦
          let none : c.if-len.heard.items ≡ [] = cc in
          let told = rw w.deref.ensures.value at w.in-Done.ensures.told in
          let more : g.K.Sink.faults c.loop-item.sink ≤ g.K.Sink.faults w.tell-served.new.sink = w.in-Done.ensures.never_falls in
          let old : g.K.Sink.faults c.args.sink.now ≤ g.K.Sink.faults c.loop-item.sink = c.loop-item.invariant.never_falls in
          record {
            served = rw w.sink-is (heard_told _ _ _ _ _ _ _ _ _ none told heard);
            few = (let short = ap length none in omega (arith, short));
            never_falls = rw w.sink-is (omega (arith, more, old));
          }
      | else-len w ↦
          let same : length c.if-len.heard.items ≡ length c.hear.new.heard.items = cc in
          let few = w.if-len.false in
          let count = c.len.ensures in
          record { served = rw (w.sink-is, w.heard-is) heard; few = omega (arith, same, few, count); never_falls = rw w.sink-is c.loop-item.invariant.never_falls }
    ]

pub returns : goal.returns
returns g c =
    let far : length c.args.items.now ≤ c.loop-item.item-index = omega arith in
    let told = rw c.deref-2.ensures.value at c.tell.ensures.told in
    heard_end g.K.Sink.written g.K.Sink.faults _ _ c.args.sink.now c.loop-item.sink c.tell.new.sink _ _ _ c.tell.result (λ e. drop_all c.loop-item.item-index c.args.items.now far) told c.loop-item.invariant.never_falls
    c.tell.ensures.never_falls c.loop-item.invariant.served
