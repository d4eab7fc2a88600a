use Rattle.ua_operands.proofs.Vocabulary.{flat_map, Shows, identity}
use Rattle.std.proofs.Common.{◌≡◌, ◌++◌, ◌<◌, length, take, sym, ◌∙◌, ap, subst, arith}
use Rattle.std.proofs.lemmas.List.{take_all}
use Rattle.ua_text.proofs.Prints.{shows_both, flat_push}
use Rattle.ua_operands.proofs.identities.put_identities.Goals as goal

pub loop-i-preserved : goal.loop-i-preserved
loop-i-preserved c =
    let vs = c.args.identities.now in let i = c.loop-i.i-index in let v = c.i-item.result in
    let below : i < length vs = let l = c.loop-i-test.true in omega arith in
    subst (λ z. Shows c.args.printer.now c.put_identity.new.printer z) (sym (flat_push identity vs i v below ∙ ap (λ z. flat_map identity (take i vs) ++ identity z) (sym c.i-item.is)))
    (shows_both c.args.printer.now c.loop-i.printer c.put_identity.new.printer (flat_map identity (take i vs)) (identity v) c.loop-i.invariant c.in_ok-put_identity.ensures)

pub returns : goal.returns
returns c =
    let vs = c.args.identities.now in
    let e : take c.loop-i.i-index vs ≡ vs = take_all c.loop-i.i-index vs (let f = c.loop-i-test.false in omega arith) in
    subst (λ z. Shows c.args.printer.now c.loop-i.printer (flat_map identity z)) e c.loop-i.invariant
