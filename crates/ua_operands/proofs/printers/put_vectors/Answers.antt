use Rattle.ua_operands.proofs.Vocabulary.{flat_map, Shows, vector}
use Rattle.std.proofs.Common.{◌≡◌, ◌++◌, ◌<◌, length, take, sym, ◌∙◌, ap, subst, arith}
use Rattle.std.proofs.lemmas.List.{take_all}
use Rattle.ua_text.proofs.Prints.{shows_both, flat_push}
use Rattle.ua_operands.proofs.printers.put_vectors.Goals as goal

pub loop-v-preserved : goal.loop-v-preserved
loop-v-preserved c =
    let vs = c.args.vectors.now in let i = c.loop-v.v-index in let v = c.v-item.result in
    let below : i < length vs = let l = c.loop-v-test.true in omega arith in
    subst (λ z. Shows c.args.printer.now c.put_vector.new.printer z) (sym (flat_push vector vs i v below ∙ ap (λ z. flat_map vector (take i vs) ++ vector z) (sym c.v-item.is)))
    (shows_both c.args.printer.now c.loop-v.printer c.put_vector.new.printer (flat_map vector (take i vs)) (vector v) c.loop-v.invariant c.in_ok-put_vector.ensures)

pub returns : goal.returns
returns c =
    let vs = c.args.vectors.now in
    let e : take c.loop-v.v-index vs ≡ vs = take_all c.loop-v.v-index vs (let f = c.loop-v-test.false in omega arith) in
    subst (λ z. Shows c.args.printer.now c.loop-v.printer (flat_map vector z)) e c.loop-v.invariant
